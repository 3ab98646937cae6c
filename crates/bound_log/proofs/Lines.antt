-- Grids and rows over the atoms of a table.
use Rattle.std.proofs.Common.{◌≡◌, ℕ, ◌<◌, inl, inr, Bool, true, false, cond, not, List, [], length, ℤ, ◌+ℤ◌, neg_ℤ, pos, None, Some, refl, sym, ap, ◌∙◌, subst, arith}
use Rattle.std.specs.Prelude.{Contains}
use Rattle.std.proofs.lemmas.List.{get_or_default, length-map, get_or-map}
use Rattle.fraction128.specs.declared.ratio.Ratio.{Ratio}
use Rattle.fraction128.specs.declared.Column.{Column}
use Rattle.fraction128.specs.declared.Line.{Line}
use Rattle.fraction128.specs.declared.Member.{Member}
use Rattle.fraction128.specs.declared.Side.{Side}
use Rattle.fraction128.specs.declared.Side.TheVariants.{Lower, Upper}
use Rattle.fraction128.specs.Grid.{WithinBounds, is_basic, is_turned}
use Rattle.fraction128.specs.Lines.{HasSum, IsResting, IsSoundGrid, IsRowIn, IsBranchLine, basic_member, line_of}
use Rattle.smt_meaning.specs.declared.clauses.Atom.{Atom}
use Rattle.smt_meaning.specs.declared.clauses.Atom.TheVariants.{Truth as TruthAtom, AtMost}
use Rattle.smt_meaning.specs.CheckAtoms.{IsBoundOf}
use Rattle.search_port.specs.State.{atom_at}
use Rattle.simplex_steps.specs.State.{column_in, no_column, values, grid_of}
use Rattle.simplex_steps.specs.Run.{AreWithin}
use Rattle.simplex_steps.proofs.TableRows.{tables_have_rows}
use Rattle.simplex.proofs.Free.{meant_are_free}
use Rattle.sum_bounds.specs.declared.fractions.FractionalLeaf.{FractionalLeaf}
use Rattle.sum_bounds.specs.Bounds.{sums, told_side, told_number, IsFirstIn}
use Rattle.sum_bounds.specs.Clauses.{plain}
use Rattle.sum_bounds.specs.Origins.{IsOfTold}
use Rattle.bound_log.specs.Told.{State, IsState, column_sums}
use Rattle.bound_log.specs.Atoms.{Says, SaysBound, Knows}
use Rattle.bound_log.specs.Pending.{plain_grid}
use Rattle.bound_log.specs.Resting.{IsSaidOn, RestsAt, AreResting}
use Rattle.bound_log.proofs.Resting.{said_on}

-- ---- bounds of a table's atoms

pub side_is : (positive turned : Bool) → told_side positive turned ≡ cond (cond positive (not turned) turned) Upper Lower
side_is true true = refl
side_is true false = refl
side_is false true = refl
side_is false false = refl

number_is : (positive turned : Bool) (k : ℤ) → told_number positive turned k ≡ cond turned (neg_ℤ (cond positive k (k +ℤ pos 1))) (cond positive k (k +ℤ pos 1))
number_is positive turned k = refl

pub bound_of : (table : List Atom) (s : State) (i : ℕ) (side : Side) (k : ℤ) → Knows table s → IsSaidOn s.said i side k → IsBoundOf (Contains table) (sums s.bounds i) side k
bound_of table s i side k knows h =
    let number : h.atom < length table = let less = h.known in omega (arith, less, knows.as_many) in
    let says : SaysBound s.bounds (atom_at table h.atom) h.of h.threshold = subst (Says s.bounds (atom_at table h.atom)) h.is (knows.each h.atom number) in
    let turned_is : h.of.turned ≡ is_turned (plain says.sum) = says.variable.sign in
    record {
      terms = says.sum;
      most = h.threshold;
      positive = h.positive;
      atom = (h.atom, number, get_or_default table h.atom (AtMost says.sum h.threshold) (TruthAtom 0) number ∙ says.atom);
      sum_is = ap (sums s.bounds) (sym h.variable) ∙ says.variable.sum;
      side_is = h.on ∙ ap (told_side h.positive) turned_is ∙ side_is h.positive (is_turned (plain says.sum));
      number_is = h.number ∙ ap (λ b. told_number h.positive b h.threshold) turned_is;
    }

rests_at : (table : List Atom) (s : State) (i : ℕ) → Knows table s → RestsAt s.said i (values s.bounds.columns i) → IsResting (IsBoundOf (Contains table)) (column_in s.bounds.columns i)
rests_at table s i knows (inl e) = inl e
rests_at table s i knows (inr (side, k, e, w)) = inr (side, k, e, bound_of table s i side k knows w)

has_sum : (s : State) (i : ℕ) → i < length s.bounds.columns → HasSum (column_sums s) i (column_in s.bounds.columns i)
has_sum s i lt = (
  omega (arith, lt, length-map s.bounds.columns (λ (c : Column). c.sum)),
  sym (get_or-map (λ (c : Column). c.sum) s.bounds.columns i no_column [] lt),
)

pub sound_grid : (table : List Atom) (s : State) → IsState s → IsOfTold s.bounds → AreResting s.bounds s.said → Knows table s → IsSoundGrid (column_sums s) (IsBoundOf (Contains table)) (plain_grid s)
sound_grid table s state origins rests knows = record {
  columns = λ i lt. has_sum s i lt;
  rows = tables_have_rows s.bounds.table s.bounds.columns origins.table state.bounds.solution.count;
  identities = λ w p. state.bounds.meant.solved w p;
  independent = meant_are_free s.bounds.table s.bounds.columns origins.table state.bounds.solution state.bounds.meant state.bounds.apart;
  fractions = λ i lt. state.bounds.solution.fractions i;
  meets = state.bounds.solution.meets;
  bounded = λ i lt. record {
    lower = λ k e. bound_of table s i Lower k knows (said_on s i Lower k state (origins.told i Lower k lt e));
    upper = λ k e. bound_of table s i Upper k knows (said_on s i Upper k state (origins.told i Upper k lt e));
  };
  resting = λ i lt free. rests_at table s i knows (rests i lt free);
}

-- ---- branches

-- a variable whose value isn't whole is basic
pub broken_basic : (s : State) (f : FractionalLeaf) → AreResting s.bounds s.said → IsFirstIn s.bounds.columns f → is_basic s.bounds.table.rows f.variable ≡ true
broken_basic s f rests first = by (is_basic s.bounds.table.rows f.variable) refl
  where
    at_rest : RestsAt s.said f.variable (values s.bounds.columns f.variable) → ⊥
    at_rest (inl e) = first.fraction.broken (ap (λ (x : Ratio). x.denominator) e)
    at_rest (inr (side, k, e, w)) = first.fraction.broken (ap (λ (x : Ratio). x.denominator) e)

    by : (z : Bool) → is_basic s.bounds.table.rows f.variable ≡ z → is_basic s.bounds.table.rows f.variable ≡ true
    by true e = e
    by false e = absurd (at_rest (rests f.variable first.known e))

pub branches : (s : State) (f : FractionalLeaf) (l : Line) → IsFirstIn s.bounds.columns f → l ≡ line_of (grid_of s.bounds.table s.bounds.columns) f.variable None → IsBranchLine f.term f.floor l
branches s f l first is = subst (IsBranchLine f.term f.floor) (sym is) (record {
  basic = basic_member (grid_of s.bounds.table s.bounds.columns) f.variable;
  is_basic = refl;
  is_term = first.fraction.is_leaf;
  broken = first.fraction.broken;
  floor = first.fraction.floor;
})

some_same : (x y : Member) → Some x ≡ Some y → x ≡ y
some_same x y e = cc

-- the value of its row's basic variable
pub branch_value : (s : State) (f : FractionalLeaf) (l : Line) → IsFirstIn s.bounds.columns f → l ≡ line_of (grid_of s.bounds.table s.bounds.columns) f.variable None → (b : Member) → l.basic ≡ Some b
    → b.column.value ≡ f.value
branch_value s f l first is b e =
    let own = basic_member (grid_of s.bounds.table s.bounds.columns) f.variable in
    let same : own ≡ b = some_same own b (sym (ap (λ (m : Line). m.basic) is) ∙ e) in
    sym (ap (λ (m : Member). m.column.value) same) ∙ sym first.fraction.value

pub row_in : (table : List Atom) (s : State) (b : ℕ) (l : Line) → IsState s → IsOfTold s.bounds → AreResting s.bounds s.said → is_basic s.bounds.table.rows b ≡ true → AreWithin s.bounds.columns
    → l ≡ line_of (plain_grid s) b None → Knows table s → IsRowIn (column_sums s) (IsBoundOf (Contains table)) l
row_in table s b l state origins rests basic within is knows = record {
  grid = plain_grid s;
  sound = sound_grid table s state origins rests knows;
  within = λ k d lt. subst WithinBounds (get_or_default s.bounds.columns k no_column d lt) (within k lt);
  variable = b;
  basic = basic;
  line = is;
}
