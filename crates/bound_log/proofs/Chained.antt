-- Bounds that a log says, and those that stand.
use Rattle.std.proofs.Common.{◌≡◌, ◌≢◌, ◌∙◌, ℕ, ◌<◌, inl, inr, Bool, true, false, List, [], ◌∷◌, length, map, ℤ, pos, neg_ℤ, Option, Some, None, refl, sym, ap, subst, arith}
use Rattle.std.specs.Prelude.{if◌then◌else◌}
use Rattle.std.proofs.lemmas.List.{length-map}
use Rattle.std.proofs.lemmas.List.Elements.{All-contains}
use Rattle.fraction128.specs.declared.Summand.{Summand as GridSummand}
use Rattle.fraction128.specs.declared.Column.{Column}
use Rattle.fraction128.specs.declared.Grid.{Grid}
use Rattle.fraction128.specs.declared.Side.{Side}
use Rattle.fraction128.specs.declared.Side.TheVariants.{Lower, Upper}
use Rattle.fraction128.specs.Grid.{column_at, is_turned, turned}
use Rattle.fraction128.specs.Chain.{StaysOrRises, StaysOrFalls, IsTightened, unbounded_column}
use Rattle.literals.specs.Signed.{Signed}
use Rattle.smt_meaning.specs.declared.clauses.Summand.{Summand}
use Rattle.smt_meaning.specs.declared.clauses.Atom.{Atom}
use Rattle.search_port.specs.Pivots.{IsSaid}
use Rattle.search_port.specs.State.{atom_at}
use Rattle.simplex_steps.specs.State.{column_in, no_column}
use Rattle.simplex.proofs.Leaves.{apart_at}
use Rattle.sum_bounds.specs.Bounds.{Told, told_bound, told_side, told_number, sums, bound_on, IsToldOn, HoldsOn, IsTakenIn}
use Rattle.sum_bounds.specs.Clauses.{plain}
use Rattle.bound_log.specs.Told.{State, IsState}
use Rattle.bound_log.specs.Atoms.{Says, SaysBound, Knows}
use Rattle.bound_log.specs.Columns.{IsColumnOf, HasColumnsOf}
use Rattle.bound_log.specs.Chained.{BoundsAreOfLog, LogIsTakenIn}
use Rattle.bound_log.proofs.Telling.{no_more}
use Rattle.bound_log.proofs.Breaking.{of_log}
use Rattle.bound_log.proofs.Wholes.{bounds_told}
use Rattle.bound_log.proofs.Lines.{side_is}
use Rattle.bound_log.proofs.Taken.{unbounded_at}

-- ---- bounds that stand

-- a bound told is one that its literal says
said_by : (table : List Atom) (s : State) (i : ℕ) (side : Side) (k : ℤ) → IsState s → Knows table s → IsToldOn s.bounds.told i side k → IsSaid table s.log (sums s.bounds i) side k
said_by table s i side k state knows t =
    let o = of_log s t.bound state t.among in
    let l = o.literal in
    let by = o.by in
    let number : l.atom < length s.said = All-contains (λ (m : Signed). m.atom < length s.said) s.log l state.numbered o.among in
    let says : SaysBound s.bounds (atom_at table l.atom) by.variable by.threshold =
    subst (Says s.bounds (atom_at table l.atom)) by.is (knows.each l.atom (subst (λ n. l.atom < n) knows.as_many number))
    in
    let turned_is : by.variable.turned ≡ is_turned (plain says.sum) = says.variable.sign in
    record {
      literal = l;
      among = o.among;
      terms = says.sum;
      most = by.threshold;
      atom = says.atom;
      sum_is = ap (sums s.bounds) (sym t.variable ∙ ap (λ (x : Told). x.variable) by.exact) ∙ says.variable.sum;
      side_is = sym t.on ∙ ap (λ (x : Told). x.side) by.exact ∙ ap (told_side l.positive) turned_is ∙ side_is l.positive (is_turned (plain says.sum));
      number_is = sym t.number ∙ ap (λ (x : Told). x.number) by.exact ∙ ap (λ b. told_number l.positive b by.threshold) turned_is;
    }

pub bounds_of_log : BoundsAreOfLog
bounds_of_log table s state knows i lt = record {
  lower = λ k e. said_by table s i Lower k state knows (state.bounds.origins i Lower k lt e);
  upper = λ k e. said_by table s i Upper k state knows (state.bounds.origins i Upper k lt e);
}

-- ---- sums that aren't empty

no_first : (p : GridSummand) (ps : List GridSummand) → p ∷ ps ≡ [] → ⊥
no_first p ps e = cc

turned_none : (ps : List GridSummand) → turned ps ≡ [] → ps ≡ []
turned_none [] e = refl
turned_none (p ∷ ps) e = absurd (by_sign (is_turned (p ∷ ps)) e)
  where
    by_sign : (z : Bool) → (if z then map (λ (q : GridSummand). record { coefficient = neg_ℤ q.coefficient; term = q.term }) (p ∷ ps) else p ∷ ps) ≡ [] → ⊥
    by_sign true f = cc
    by_sign false f = cc

plain_none : (ps : List Summand) → plain ps ≡ [] → ps ≡ []
plain_none [] e = refl
plain_none (p ∷ ps) e = cc

filled : (table : List Atom) (c : Column) → IsColumnOf table c → c.sum ≢ []
filled table c (inl h) e = no_first (record { coefficient = pos 1; term = h.part.term }) [] (sym h.sum_is ∙ e)
filled table c (inr h) e = h.filled (plain_none h.terms (turned_none (plain h.terms) (sym h.sum_is ∙ e)))

-- ---- what the log says

-- a bound that a literal of the log says of a variable's sum stands, or a tighter one does
stands : (table other : List Atom) (s : State) (i : ℕ) (side : Side) (k : ℤ) → IsState s → Knows table s → HasColumnsOf other s → i < length s.bounds.columns → IsSaid table s.log (sums s.bounds i) side k
    → HoldsOn side k (bound_on (column_in s.bounds.columns i) side)
stands table other s i side k state knows columns lt w =
    let cs = s.bounds.columns in
    let some : w.terms ≢ [] = λ e. filled other (column_in cs i) (columns i no_column lt) (w.sum_is ∙ ap (λ ps. turned (plain ps)) e) in
    let t = bounds_told table s state knows w.literal w.terms w.most w.among w.atom some in
    let v = t.of in
    let positive = w.literal.positive in
    let same : v.variable ≡ i = apart_at cs v.variable i state.bounds.apart t.stands.known lt (t.stands.sum ∙ sym w.sum_is) in
    let side_same : told_side positive v.turned ≡ side = ap (told_side positive) t.stands.sign ∙ side_is positive (is_turned (plain w.terms)) ∙ sym w.side_is in
    let number_same : told_number positive v.turned w.most ≡ k = ap (λ b. told_number positive b w.most) t.stands.sign ∙ sym w.number_is in
    let taken : IsTakenIn cs (told_bound w.literal v.variable v.turned w.most) = All-contains (IsTakenIn cs) s.bounds.told (told_bound w.literal v.variable v.turned w.most) state.bounds.taken t.told in
    subst (λ j. HoldsOn side k (bound_on (column_in cs j) side)) same
    (subst (λ n. HoldsOn side n (bound_on (column_in cs v.variable) side)) number_same
    (subst (λ z. HoldsOn z (told_number positive v.turned w.most) (bound_on (column_in cs v.variable) z)) side_same taken))

pub log_is_taken : LogIsTakenIn
log_is_taken table other s g state knows columns same said = record {
  count = omega (arith, as_many);
  each = λ i lt. tightened i lt;
  more = [];
  rows = sym (ap (λ (h : Grid). h.rows) same) ∙ sym (no_more g.rows);
  pending = sym (ap (λ (h : Grid). h.pending) same);
}
  where
    columns_same : map unbounded_column g.columns ≡ map unbounded_column s.bounds.columns
    columns_same = ap (λ (h : Grid). h.columns) same

    as_many : length g.columns ≡ length s.bounds.columns
    as_many = sym (length-map g.columns unbounded_column) ∙ ap (length {A = Column}) columns_same ∙ length-map s.bounds.columns unbounded_column

    tightened : (i : ℕ) → i < length g.columns → IsTightened (column_at g i) (column_in s.bounds.columns i)
    tightened i lt = record {
      sum = sum_same;
      value = ap (λ (c : Column). c.value) here;
      lower = low (column_at g i).lower refl;
      upper = high (column_at g i).upper refl;
    }
      where
        inside : i < length s.bounds.columns
        inside = omega (arith, lt, as_many)

        here : unbounded_column (column_in s.bounds.columns i) ≡ unbounded_column (column_at g i)
        here = sym (unbounded_at s.bounds.columns i no_column inside) ∙ ap (λ ds. column_in ds i) (sym columns_same) ∙ unbounded_at g.columns i no_column lt

        sum_same : (column_in s.bounds.columns i).sum ≡ (column_at g i).sum
        sum_same = ap (λ (c : Column). c.sum) here

        low : (o : Option ℤ) → (column_at g i).lower ≡ o → StaysOrRises o (column_in s.bounds.columns i).lower
        low None e = tt
        low (Some k) e = stands table other s i Lower k state knows columns inside (subst (λ ps. IsSaid table s.log ps Lower k) (sym sum_same) ((said i lt).lower k e))

        high : (o : Option ℤ) → (column_at g i).upper ≡ o → StaysOrFalls o (column_in s.bounds.columns i).upper
        high None e = tt
        high (Some k) e = stands table other s i Upper k state knows columns inside (subst (λ ps. IsSaid table s.log ps Upper k) (sym sum_same) ((said i lt).upper k e))
