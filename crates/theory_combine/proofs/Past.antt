-- Grids whose next step leaves the range, over the atoms of the check.
use Rattle.std.proofs.Common.{◌≡◌, ◌≢◌, ℕ, ◌+◌, ◌<◌, List, [], ◌∷◌, ◌++◌, length, take, drop, ℤ, All, Contains, Some, inl, inr, refl, sym, subst, arith}
use Rattle.std.specs.Prelude.{AllPairs, Bool, Option, None, IfSome}
use Rattle.std.proofs.lemmas.List.Elements.{All-cons, All-weaker, All-contains, Contains-push_cases, Contains-append_left, Contains-append_right}
use Rattle.std.proofs.lemmas.List.{take-append-drop}
use Rattle.std.proofs.lemmas.Grind.{take_at_read}
use Rattle.fraction128.specs.declared.Summand.{Summand as GridSummand}
use Rattle.fraction128.specs.declared.Column.{Column}
use Rattle.fraction128.specs.declared.Grid.{Grid}
use Rattle.fraction128.specs.declared.Line.{Line}
use Rattle.fraction128.specs.declared.Pending.{Pending}
use Rattle.smt_meaning.specs.declared.clauses.Summand.{Summand}
use Rattle.smt_meaning.specs.declared.clauses.Atom.{Atom}
use Rattle.smt_meaning.specs.declared.clauses.Atom.TheVariants.{Truth, AtMost}
use Rattle.smt_meaning.specs.declared.reports.RangeSeen.{RangeSeen}
use Rattle.smt_meaning.specs.StackCommand.{Stack}
use Rattle.smt_meaning.specs.CheckAtoms.{IsLeaf, told}
use Rattle.smt_meaning.specs.Ranges.{IsOnAtom, LeavesInStep}
use Rattle.smt_laws.specs.Flat.{flat}
use Rattle.search_port.specs.State.{atom_at}
use Rattle.bound_log.specs.Told.{State}
use Rattle.bound_log.specs.Columns.{IsColumnOf, AddsColumns}
use Rattle.theory_combine.specs.declared.errors.BoundError.{BoundError}
use Rattle.theory_combine.specs.declared.errors.BoundError.TheVariants.{Memory, Range}
use Rattle.theory_combine.specs.Columns.{bound_on, with_leaves, HasKnownColumns}
use Rattle.theory_combine.specs.Errors.{IsPastOver, IsErrorOver, IsErrorIn, IsErrorLeft, IsSumIn, seen_of}
use Rattle.theory_combine.specs.Shown.{AreShown, IsLeft, IsOfCheck}
use Rattle.theory_combine.proofs.Branching.{grid_over}

-- ---- bounds that wait

pub no_none : (p : Pending) → None ≡ Some p → ⊥
no_none p e = cc

some_same : (p q : Pending) → Some p ≡ Some q → p ≡ q
some_same p q e = cc

-- the bound that waits is on this atom
pub on_atom : (table : List Atom) (sum : List Summand) (number : ℤ) (holds : Bool) (p : Pending) → Contains table (AtMost sum number) → Some (told sum number holds) ≡ Some p → IsOnAtom (Contains table) p
on_atom table sum number holds p among e =
    subst (IsOnAtom (Contains table)) (some_same (told sum number holds) p e) (record { terms = sum; atom = among; sum_is = refl })

-- ---- more atoms

pub column_over : (t u : List Atom) → ((a : Atom) → Contains t a → Contains u a) → (c : Column) → IsColumnOf t c → IsColumnOf u c
column_over t u f c (inl h) = inl (record { terms = h.terms; most = h.most; part = h.part; atom = f (AtMost h.terms h.most) h.atom; among = h.among; sum_is = h.sum_is })
column_over t u f c (inr h) = inr (record { terms = h.terms; most = h.most; filled = h.filled; atom = f (AtMost h.terms h.most) h.atom; sum_is = h.sum_is })

past_over : (sums : List (List GridSummand)) (t u : List Atom) → ((a : Atom) → Contains t a → Contains u a) → (g : Grid) → IsPastOver sums t g → IsPastOver sums u g
past_over sums t u f g h = record {
  sound = grid_over (Contains t) (Contains u) f sums g h.sound;
  pending = λ p e. let on = h.pending p e in record { terms = on.terms; atom = f (AtMost on.terms p.number) on.atom; sum_is = on.sum_is };
  next = h.next;
}

-- the error of bounds of a table's atoms
pub error_in : (sums : List (List GridSummand)) (t u : List Atom) → ((a : Atom) → Contains t a → Contains u a) → AllPairs (λ (ps qs : List GridSummand). ps ≢ qs) sums → All (IsSumIn t) sums → (e : BoundError)
    → IsErrorOver sums t e → IsErrorIn u e
error_in sums t u f apart columns Memory h = tt
error_in sums t u f apart columns (Range g) h =
    record { sums = sums; apart = apart; columns = All-weaker (IsSumIn t) (IsSumIn u) (λ ps c. sum_over ps c) sums columns; past = past_over sums t u f g h }
  where
    sum_over : (ps : List GridSummand) → IsSumIn t ps → IsSumIn u ps
    sum_over ps (inl c) = inl (record { terms = c.terms; most = c.most; part = c.part; atom = f (AtMost c.terms c.most) c.atom; among = c.among; sum_is = c.sum_is })
    sum_over ps (inr c) = inr (record { terms = c.terms; most = c.most; filled = c.filled; atom = f (AtMost c.terms c.most) c.atom; sum_is = c.sum_is })

push_front : (xs : List Atom) (a b : Atom) → Contains (xs ++ a ∷ []) b → Contains (a ∷ xs) b
push_front xs a b c = elim (Contains-push_cases xs a b c) [ inl before ↦ Contains-append_right (a ∷ []) xs b before | inr same ↦ (0, omega arith, same) ]

-- a leaf alone more
pub known_leaf : (s : Stack) (table : List Atom) (b d : State) (term : ℕ) → IsLeaf s.trees (flat s.frames) term → AddsColumns b (bound_on term) d → HasKnownColumns s table b → HasKnownColumns s table d
known_leaf s table b d term one adds h = record {
  own = term ∷ h.own;
  leaves = All-cons (IsLeaf s.trees (flat s.frames)) term h.own one h.leaves;
  columns =
      All-weaker (IsColumnOf (with_leaves h.own table ++ bound_on term ∷ [])) (IsColumnOf (with_leaves (term ∷ h.own) table))
      (column_over (with_leaves h.own table ++ bound_on term ∷ []) (with_leaves (term ∷ h.own) table) (λ a c. push_front (with_leaves h.own table) (bound_on term) a c)) d.bounds.columns
      (adds (with_leaves h.own table) h.columns);
}

-- ---- atoms of the check

pub step_left : (s : Stack) (sums : List (List GridSummand)) (rows : List Line) (left : Option RangeSeen) (table : List Atom) → AreShown s sums rows left table → (g : Grid) → IsPastOver sums table g
    → LeavesInStep s.trees (flat s.frames) sums (IsOfCheck s rows) g
step_left s sums rows left table shown g past = record {
  grid = grid_over (Contains table) (IsOfCheck s rows) of_check sums g past.sound;
  pending = λ p e. let on = past.pending p e in record { terms = on.terms; atom = of_check (AtMost on.terms p.number) on.atom; sum_is = on.sum_is };
  next = past.next;
}
  where
    of_check : (a : Atom) → Contains table a → IsOfCheck s rows a
    of_check a c = All-contains (IsOfCheck s rows) table a shown.atoms c

pub error_left : (s : Stack) (sums : List (List GridSummand)) (rows : List Line) (left : Option RangeSeen) (table : List Atom) → AreShown s sums rows left table → (e : BoundError) → IsErrorOver sums table e
    → IsErrorLeft s sums rows e
error_left s sums rows left table shown Memory h = tt
error_left s sums rows left table shown (Range g) h = step_left s sums rows left table shown g h

pub seen_left : (s : Stack) (sums : List (List GridSummand)) (rows : List Line) (e : BoundError) → IsErrorLeft s sums rows e → IfSome (seen_of e) (IsLeft s sums rows)
seen_left s sums rows Memory h = tt
seen_left s sums rows (Range g) h = h

-- the first atoms of a list with the next one
pub front_within : (xs : List Atom) (n : ℕ) → n < length xs → (a : Atom) → Contains (take n xs ++ atom_at xs n ∷ []) a → Contains xs a
front_within xs n less a c =
    subst (λ (ys : List Atom). Contains ys a) (take-append-drop (n + 1) xs)
    (Contains-append_left (take (n + 1) xs) (drop (n + 1) xs) a (subst (λ (ys : List Atom). Contains ys a) (sym (take_at_read xs n (Truth 0) less).1) c))
