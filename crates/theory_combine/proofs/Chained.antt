-- Grids in which bounds are taken in one after another, and pivots that lead from one to another.
use Rattle.std.proofs.Common.{◌≡◌, ◌∙◌, ℕ, ◌<◌, ◌≤◌, ℤ, Bool, List, [], ◌∷◌, ◌++◌, map, length, Option, Some, None, refl, sym, ap, subst, arith}
use Rattle.std.proofs.lemmas.Int.{ints}
use Rattle.std.proofs.lemmas.List.{append-nil, length-map, get_or-map}
use Rattle.fraction128.specs.declared.Summand.{Summand}
use Rattle.fraction128.specs.declared.Column.{Column}
use Rattle.fraction128.specs.declared.Grid.{Grid}
use Rattle.fraction128.specs.declared.Line.{Line}
use Rattle.fraction128.specs.declared.Side.TheVariants.{Lower, Upper}
use Rattle.fraction128.specs.declared.ratio.Ratio.{Ratio}
use Rattle.fraction128.specs.Grid.{column_at, move, pivot, after, with_values, moved_value, pivoted_value}
use Rattle.fraction128.specs.Lines.{Bounding, exchanged}
use Rattle.fraction128.specs.Chain.{StaysOrRises, StaysOrFalls, TakesIn, ComesFrom, begins, taken, moved, left_by, PivotsLead, unbounded_column, unbounded}
use Rattle.literals.specs.Signed.{Signed}
use Rattle.smt_meaning.specs.declared.clauses.Atom.{Atom}
use Rattle.smt_meaning.specs.StackCommand.{Stack}
use Rattle.search_port.specs.Pivots.{pivots_of, AreChained, IsSaid}
use Rattle.search_port.specs.declared.budget.Spent.{Spent}
use Rattle.search_port.specs.declared.budget.Spent.TheVariants.{Learnt, Numbered, Pivot}
use Rattle.simplex_steps.specs.State.{KeepsBounds, column_in, no_column}
use Rattle.simplex_steps.proofs.Moments.{length_with, col_with}
use Rattle.simplex.specs.State.{KeepsValues}
use Rattle.bound_log.specs.Told.{State, IsState}
use Rattle.bound_log.specs.Atoms.{Knows}
use Rattle.bound_log.specs.Growth.{KeepsVariables}
use Rattle.bound_log.specs.Chained.{BoundsAreOfLog, LogIsTakenIn, ValuesStay}
use Rattle.theory_combine.specs.Chained.{BoundsAreSaid, HasBoundsOf, KeepsGrid}
use Rattle.theory_combine.specs.Columns.{HasKnownColumns, with_leaves}
use Rattle.theory_combine.specs.Pivots.{pivot_units}

-- ---- bounds that only tighten

rises_still : (o : Option ℤ) → StaysOrRises o o
rises_still None = tt
rises_still (Some k) = omega (arith, ints)

falls_still : (o : Option ℤ) → StaysOrFalls o o
falls_still None = tt
falls_still (Some k) = omega (arith, ints)

rises_then : (a b c : Option ℤ) → StaysOrRises a b → StaysOrRises b c → StaysOrRises a c
rises_then None b c h k = tt
rises_then (Some m) None c h k = absurd h
rises_then (Some m) (Some n) None h k = absurd k
rises_then (Some m) (Some n) (Some l) h k = omega (arith, ints, h, k)

falls_then : (a b c : Option ℤ) → StaysOrFalls a b → StaysOrFalls b c → StaysOrFalls a c
falls_then None b c h k = tt
falls_then (Some m) None c h k = absurd h
falls_then (Some m) (Some n) None h k = absurd k
falls_then (Some m) (Some n) (Some l) h k = omega (arith, ints, h, k)

-- between bounds that are the same there is no other
rises_between : (a b : Option ℤ) → StaysOrRises a b → StaysOrRises b a → b ≡ a
rises_between None None h k = refl
rises_between None (Some n) h k = absurd k
rises_between (Some m) None h k = absurd h
rises_between (Some m) (Some n) h k = let same : n ≡ m = omega (arith, ints, h, k) in ap (λ (x : ℤ). Some x) same

falls_between : (a b : Option ℤ) → StaysOrFalls a b → StaysOrFalls b a → b ≡ a
falls_between None None h k = refl
falls_between None (Some n) h k = absurd k
falls_between (Some m) None h k = absurd h
falls_between (Some m) (Some n) h k = let same : n ≡ m = omega (arith, ints, h, k) in ap (λ (x : ℤ). Some x) same

-- the variables keep their sums, no bound of them is loosened, and variables may come after
pub record Tightens (g h : Grid) : Type 0 where
  pub count : length g.columns ≤ length h.columns
  pub sum : (i : ℕ) → i < length g.columns → (column_at h i).sum ≡ (column_at g i).sum
  pub lower : (i : ℕ) → i < length g.columns → StaysOrRises (column_at g i).lower (column_at h i).lower
  pub upper : (i : ℕ) → i < length g.columns → StaysOrFalls (column_at g i).upper (column_at h i).upper

tightens_none : (g : Grid) → Tightens g g
tightens_none g = record { count = omega arith; sum = λ i lt. refl; lower = λ i lt. rises_still (column_at g i).lower; upper = λ i lt. falls_still (column_at g i).upper }

tightens_then : (f g h : Grid) → Tightens f g → Tightens g h → Tightens f h
tightens_then f g h s t =
    let first = s.count in
    let second = t.count in
    record {
      count = omega (arith, first, second);
      sum = λ i lt. t.sum i (omega (arith, lt, first)) ∙ s.sum i lt;
      lower = λ i lt. rises_then (column_at f i).lower (column_at g i).lower (column_at h i).lower (s.lower i lt) (t.lower i (omega (arith, lt, first)));
      upper = λ i lt. falls_then (column_at f i).upper (column_at g i).upper (column_at h i).upper (s.upper i lt) (t.upper i (omega (arith, lt, first)));
    }

-- other values
tightens_values : (g h : Grid) (f : ℕ → Ratio) → h.columns ≡ with_values f 0 g.columns → Tightens g h
tightens_values g h f e = record {
  count = let n = ap (λ (cs : List Column). length cs) e ∙ length_with f 0 g.columns in omega (arith, n);
  sum = λ i lt. ap (λ (c : Column). c.sum) (at i lt);
  lower = λ i lt. subst (StaysOrRises (column_at g i).lower) (sym (ap (λ (c : Column). c.lower) (at i lt))) (rises_still (column_at g i).lower);
  upper = λ i lt. subst (StaysOrFalls (column_at g i).upper) (sym (ap (λ (c : Column). c.upper) (at i lt))) (falls_still (column_at g i).upper);
}
  where
    at : (i : ℕ) → i < length g.columns → column_at h i ≡ record { sum = (column_at g i).sum; lower = (column_at g i).lower; upper = (column_at g i).upper; value = f i }
    at i lt = ap (λ (cs : List Column). column_in cs i) e ∙ col_with f 0 g.columns i i (omega arith) lt

tightens_moved : (g : Grid) (i : ℕ) (k : ℤ) → Tightens g (after g (move i k))
tightens_moved g i k = tightens_values g (after g (move i k)) (moved_value g i k) refl

tightens_pivoted : (g : Grid) (b : ℕ) (k : ℤ) (c : ℕ) → Tightens g (after g (pivot b k c))
tightens_pivoted g b k c = tightens_values g (after g (pivot b k c)) (pivoted_value g b k c) refl

tightens_taken : (g h : Grid) → TakesIn g h → Tightens g h
tightens_taken g h t = record { count = t.count; sum = λ i lt. (t.each i lt).sum; lower = λ i lt. (t.each i lt).lower; upper = λ i lt. (t.each i lt).upper }

tightens_come : (g h : Grid) → ComesFrom g h → Tightens g h
tightens_come g h begins = tightens_none g
tightens_come g h (taken m k q t) = tightens_then g m h (tightens_come g m q) (tightens_taken m h t)
tightens_come g h (moved m i k q n) = tightens_then g m (after m (move i k)) (tightens_come g m q) (tightens_moved m i k)

pub takes_none : (g : Grid) → TakesIn g g
takes_none g = record {
  count = omega arith;
  each = λ i lt. record { sum = refl; value = refl; lower = rises_still (column_at g i).lower; upper = falls_still (column_at g i).upper };
  more = [];
  rows = sym (append-nil g.rows);
  pending = refl;
}

-- ---- the first of some pivots

module _ (sums : List (List Summand)) (B : Bounding) where
  tightens_lead : (is : ℕ → Bool) (f h : Grid) (ls : List Line) → PivotsLead sums B is (Some f) ls (Some h) → Tightens f h
  tightens_lead is f h [] p = tightens_come f h p
  tightens_lead is f h (l ∷ ls) p =
      tightens_then f p.0.grid h (tightens_come f p.0.grid p.1)
      (tightens_then p.0.grid (left_by p.0) h (tightens_pivoted p.0.grid p.0.leaves p.0.number p.0.enters) (tightens_lead (exchanged l is) (left_by p.0) h ls p.2))

  -- the pivots lead to a grid on the way to the last one
  pub record LeadsWithin (is : ℕ → Bool) (f h : Grid) (ls : List Line) : Type 0 where
    pub grid : Grid
    pub lead : PivotsLead sums B is (Some f) ls (Some grid)
    pub earlier : Tightens f grid
    pub later : Tightens grid h

  pub first_lead : (is : ℕ → Bool) (f h : Grid) (ls ms : List Line) → PivotsLead sums B is (Some f) (ls ++ ms) (Some h) → LeadsWithin is f h ls
  first_lead is f h [] ms p = record { grid = f; lead = begins; earlier = tightens_none f; later = tightens_lead is f h ms p }
  first_lead is f h (l ∷ ls) ms p =
      let rest = first_lead (exchanged l is) (left_by p.0) h ls ms p.2 in
      record {
        grid = rest.grid;
        lead = (p.0, p.1, rest.lead);
        earlier = tightens_then f p.0.grid rest.grid (tightens_come f p.0.grid p.1)
            (tightens_then p.0.grid (left_by p.0) rest.grid (tightens_pivoted p.0.grid p.0.leaves p.0.number p.0.enters) rest.earlier);
        later = rest.later;
      }

-- where the bounds at the end are those at the beginning, they are so on the way
pub said_between : (table : List Atom) (log : List Signed) (f g h : Grid) → Tightens f g → Tightens g h → KeepsBounds f.columns h.columns → BoundsAreSaid table log f → BoundsAreSaid table log g
said_between table log f g h s t keeps said i lt =
    let first = s.count in
    let second = t.count in
    let as_many : length h.columns ≡ length f.columns = keeps.count in
    let here : i < length f.columns = omega (arith, lt, second, as_many) in
    let same = keeps.each i in
    let lower : (column_at g i).lower ≡ (column_at f i).lower =
    rises_between (column_at f i).lower (column_at g i).lower (s.lower i here) (subst (StaysOrRises (column_at g i).lower) same.lower (t.lower i lt)) in
    let upper : (column_at g i).upper ≡ (column_at f i).upper =
    falls_between (column_at f i).upper (column_at g i).upper (s.upper i here) (subst (StaysOrFalls (column_at g i).upper) same.upper (t.upper i lt)) in
    record {
      lower = λ k e. subst (λ ps. IsSaid table log ps Lower k) (sym (s.sum i here)) ((said i here).lower k (sym lower ∙ e));
      upper = λ k e. subst (λ ps. IsSaid table log ps Upper k) (sym (s.sum i here)) ((said i here).upper k (sym upper ∙ e));
    }

-- ---- units

pub pivots_are_units : (ls : List Line) → pivots_of ls ≡ pivot_units ls
pivots_are_units [] = refl
pivots_are_units (l ∷ ls) = ap (λ (us : List Spent). Pivot l ∷ us) (pivots_are_units ls)

-- after an atom that got a number the grid is free
pub numbered_on : (sums : List (List Summand)) (B : Bounding) (is : ℕ → Bool) (here there other : Option Grid) (us : List Spent) (n : ℕ) → AreChained sums B is here us there → AreChained sums B is here (us ++ Numbered n ∷ []) other
numbered_on sums B is here there other [] n p = tt
numbered_on sums B is here there other (Learnt c ∷ us) n p = numbered_on sums B is None there other us n p
numbered_on sums B is here there other (Numbered m ∷ us) n p = numbered_on sums B is None there other us n p
numbered_on sums B is here there other (Pivot l ∷ us) n p = (p.0, p.1, numbered_on sums B (exchanged l is) (Some (left_by p.0)) there other us n p.2)

-- ---- the bounds of a log

pub has_bounds : BoundsAreOfLog → LogIsTakenIn → (s : Stack) (table : List Atom) (log : List Signed) (b : State) → IsState b → Knows table b → HasKnownColumns s table b → b.log ≡ log → HasBoundsOf table log b
has_bounds of_log taken_in s table log b state knows columns same =
    subst (λ (ls : List Signed). HasBoundsOf table ls b) same
    (record { said = of_log table b state knows; taken = λ g e said. taken_in table (with_leaves columns.own table) b g state knows columns.columns e said })

pub said_over : (t u : List Atom) (log more : List Signed) (g : Grid) → t ≡ u → log ≡ more → BoundsAreSaid t log g → BoundsAreSaid u more g
said_over t u log more g e f h = subst (λ (ls : List Signed). BoundsAreSaid u ls g) f (subst (λ (x : List Atom). BoundsAreSaid x log g) e h)

-- ---- the grid without its bounds

pub keeps_grid : ValuesStay → (b d : State) → KeepsVariables b d → d.bounds.table ≡ b.bounds.table → KeepsValues b.bounds.columns d.bounds.columns → KeepsGrid b d
keeps_grid law b d keeps table values = record { sums = keeps.sums; basis = keeps.basis; grid = law b d table values }

pub keeps_same : (b d : State) → d ≡ b → KeepsGrid b d
keeps_same b d e = subst (KeepsGrid b) (sym e) (record { sums = refl; basis = λ is has. has; grid = refl })

pub keeps_both : (b c d : State) → KeepsGrid b c → KeepsGrid c d → KeepsGrid b d
keeps_both b c d h k = record { sums = k.sums ∙ h.sums; basis = λ is has. k.basis is (h.basis is has); grid = k.grid ∙ h.grid }

unbounded_twice : (cs : List Column) → map unbounded_column (map unbounded_column cs) ≡ map unbounded_column cs
unbounded_twice [] = refl
unbounded_twice (c ∷ cs) = ap (λ (ds : List Column). unbounded_column c ∷ ds) (unbounded_twice cs)

no_bound : (k : ℤ) → None ≡ Some k → ⊥
no_bound k e = cc

pub unbounded_same : (g : Grid) → unbounded (unbounded g) ≡ unbounded g
unbounded_same g = ap (λ (cs : List Column). let h : Grid = record { columns = cs; rows = g.rows; pending = g.pending } in h) (unbounded_twice g.columns)

-- where there are no bounds, all are said
pub none_said : (table : List Atom) (log : List Signed) (g : Grid) → BoundsAreSaid table log (unbounded g)
none_said table log g i lt =
    let here : i < length g.columns = omega (arith, lt, length-map g.columns unbounded_column) in
    let at : column_at (unbounded g) i ≡ unbounded_column (column_in g.columns i) = get_or-map unbounded_column g.columns i no_column no_column here in
    record {
      lower = λ k e. absurd (no_bound k (sym (ap (λ (c : Column). c.lower) at) ∙ e));
      upper = λ k e. absurd (no_bound k (sym (ap (λ (c : Column). c.upper) at) ∙ e));
    }
