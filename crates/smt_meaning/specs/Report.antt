-- What a worker shows that ended a check without an answer: the units that it spent, each of which did something new, or where a number left the range.
use Rattle.std.specs.Prelude.{◌≡◌, ◌≢◌, ◌⊎◌, ℕ, ◌^◌, min, Bool, true, false, not, List, [], ◌∷◌, ◌++◌, map, length, ℤ, pos, int_le, unsigned_abs, All, AllPairs, Contains, Option, Some, None, if◌then◌else◌}
use Rattle.std.specs.List.{list_any, range_with_len}
use Rattle.std.proofs.Common.{refl, subst, inl, inr}
use Rattle.smt_meaning.specs.declared.options.UnknownReason.{UnknownReason}
use Rattle.smt_meaning.specs.declared.options.UnknownReason.TheVariants.{Memout, Incomplete}
use Rattle.smt_meaning.specs.declared.values.Sort.{Sort}
use Rattle.smt_meaning.specs.declared.values.Sort.TheVariants.{Int as Ints}
use Rattle.smt_meaning.specs.declared.terms.Operator.{Operator}
use Rattle.smt_meaning.specs.declared.terms.Head.TheVariants.{Theory}
use Rattle.smt_meaning.specs.declared.clauses.Atom.{Atom}
use Rattle.smt_meaning.specs.declared.clauses.Atom.TheVariants.{Truth, Same}
use Rattle.smt_meaning.specs.declared.clauses.Literal.{Literal}
use Rattle.smt_meaning.specs.declared.clauses.Clause.{Clause}
use Rattle.fraction128.specs.declared.Line.{Line}
use Rattle.fraction128.specs.declared.Grid.{Grid}
use Rattle.fraction128.specs.Lines.{Bounding, IsPivotIn, first_basis, exchanged}
use Rattle.fraction128.specs.Chain.{GoesOn, left_by}
use Rattle.fraction128.specs.declared.Summand.{Summand as GridSummand}
use Rattle.smt_meaning.specs.declared.reports.RangeSeen.{RangeSeen}
use Rattle.smt_meaning.specs.declared.reports.Unit.{Unit as Spent}
use Rattle.smt_meaning.specs.declared.reports.Unit.TheVariants.{Learnt, Numbered, Pivot}
use Rattle.smt_meaning.specs.declared.reports.Cause.{Cause}
use Rattle.smt_meaning.specs.declared.reports.Cause.TheVariants.{Units, Range, Memory}
use Rattle.smt_meaning.specs.declared.reports.Report.{Report}
use Rattle.smt_meaning.specs.Term.{Tree, Trees, node, tree_at}
use Rattle.smt_meaning.specs.Signature.{tree_sort}
use Rattle.smt_meaning.specs.TreeShape.{place_of}
use Rattle.smt_meaning.specs.Stack.{Frame, signature_of, assertions_of}
use Rattle.smt_meaning.specs.Follows.{Follows}
use Rattle.smt_meaning.specs.Atoms.{stack_atoms}
pub use Rattle.smt_meaning.specs.CheckAtoms.{IsPartOfStack, ComparesParts, IsCheckAtom}
use Rattle.smt_meaning.specs.CheckAtoms.{IsBoundOf, AreBranches, AreCheckSums}
use Rattle.smt_meaning.specs.Ranges.{LeavesRange}
use Rattle.smt_meaning.specs.Forced.{Sign, Forces, IsClauseOf, literals_of}

-- ---- clauses that propagation doesn't find by itself

abbrev pub negated : Literal → Literal
negated l = record { atom = l.atom; positive = not l.positive }

-- a clause of a part of an assertion
pub record IsPartClause (ts : List Tree) (frames : List Frame) (ls : List Literal) : Type 0 where
  pub operator : Operator
  pub arguments : Trees
  pub part : IsPartOfStack frames (node (Theory operator) arguments)
  pub signs : List Sign
  pub clause : IsClauseOf ts (signature_of frames) operator arguments signs
  pub same : ls ≡ literals_of signs

-- the clause that an assertion is true
pub record IsAsserted (ts : List Tree) (frames : List Frame) (ls : List Literal) : Type 0 where
  pub assertion : Tree
  pub asserted : Contains (assertions_of frames) assertion
  pub same : ls ≡ record { atom = Truth (place_of assertion ts); positive = true } ∷ []

-- a clause that was learnt before
pub record IsEarlier (earlier : List Spent) (ls : List Literal) : Type 0 where
  pub clause : Clause
  pub learnt : Contains earlier (Learnt clause)
  pub same : ls ≡ clause.literals

abbrev pub IsGiven : List Tree → List Frame → List Spent → List Literal → Type 0
IsGiven ts frames earlier ls = IsPartClause ts frames ls ⊎ IsAsserted ts frames ls ⊎ IsEarlier earlier ls

-- ---- units

-- the limit 0 stands for none
abbrev pub is_unlimited : ℤ → Bool
is_unlimited limit = int_le limit (pos 0)

-- how many units a worker may spend: as many as the limit says, where there is one, and at most 2^40
abbrev pub most_units : ℤ → ℕ
most_units limit = if is_unlimited limit then 2 ^ 40 else min (unsigned_abs limit) (2 ^ 40)

-- where there is no limit, neither learning nor a pivot costs a unit
abbrev pub WorkCosts : ℤ → Type 0
WorkCosts limit = is_unlimited limit ≡ false

-- a clause that follows, and that no clauses among those given force
pub record IsLearnt (ts : List Tree) (frames : List Frame) (branches : List Line) (limit : ℤ) (earlier : List Spent) (c : Clause) : Type 0 where
  pub costs : WorkCosts limit
  pub follows : Follows ts frames c.level c
  pub of_check : All (λ (l : Literal). IsCheckAtom ts frames branches l.atom) c.literals
  pub no_two : AllPairs (λ (l m : Literal). l.atom ≢ m.atom) c.literals
  pub unforced : (clauses : List (List Literal)) → All (IsGiven ts frames earlier) clauses → Forces negated clauses c.literals → ⊥

-- an atom of the check that isn't one of the stack, and wasn't numbered before; of equalities one of two Ints alone
pub record IsNumbered (ts : List Tree) (frames : List Frame) (branches : List Line) (earlier : List Spent) (a : Atom) : Type 0 where
  pub of_check : IsCheckAtom ts frames branches a
  pub not_of_stack : Contains (stack_atoms ts frames) a → ⊥
  pub of_integers : (i j : ℕ) (s : Sort) → a ≡ Same i j → tree_sort (signature_of frames) (tree_at ts i) ≡ Some s → s ≡ Ints
  pub new : Contains earlier (Numbered a) → ⊥

-- the pivots are by Bland's rule, each from the basis that those before it left; and where no other unit is between, from the grid that the one before it left, which is `here`, by what is taken in and moved
abbrev pub AreChained : List (List GridSummand) → Bounding → (ℕ → Bool) → Option Grid → List Spent → Type 0
AreChained sums B is here [] = Unit {0}
AreChained sums B is here (Learnt c ∷ us) = AreChained sums B is None us
AreChained sums B is here (Numbered a ∷ us) = AreChained sums B is None us
AreChained sums B is here (Pivot l ∷ us) = (p : IsPivotIn sums B is l) × GoesOn here (Some p.grid) × AreChained sums B (exchanged l is) (Some (left_by p)) us

abbrev pub IsUnit : List Tree → List Frame → List Line → ℤ → List Spent → Spent → Type 0
IsUnit ts frames branches limit earlier (Learnt c) = IsLearnt ts frames branches limit earlier c
IsUnit ts frames branches limit earlier (Numbered a) = IsNumbered ts frames branches earlier a
IsUnit ts frames branches limit earlier (Pivot l) = WorkCosts limit

-- each unit is one after those before it
abbrev pub AreUnits : List Tree → List Frame → List Line → ℤ → List Spent → Type 0
AreUnits ts frames branches limit us =
    (before after : List Spent) (u : Spent) → us ≡ before ++ u ∷ after → IsUnit ts frames branches limit before u

-- a list that ends in one more, cut before one of its items: at the last one, or before it
last_or_before : {X : Type 0} (us before after : List X) (u v : X) → us ++ u ∷ [] ≡ before ++ v ∷ after
    → ((us ≡ before) × (u ≡ v)) ⊎ ((rest : List X) × (us ≡ before ++ v ∷ rest))
last_or_before [] [] after u v e = inl (refl, cc)
last_or_before [] (b ∷ []) after u v e = cc
last_or_before [] (b ∷ c ∷ before) after u v e = cc
last_or_before (x ∷ us) [] after u v e = inr (us, cc)
last_or_before (x ∷ us) (b ∷ before) after u v e =
    let first : x ≡ b = cc in let rest : us ++ u ∷ [] ≡ before ++ v ∷ after = cc in
    elim (last_or_before us before after u v rest) [ inl (same, last) ↦ inl (cc, last) | inr (more, same) ↦ inr (more, cc) ]

pub no_units : (ts : List Tree) (frames : List Frame) (branches : List Line) (limit : ℤ) → AreUnits ts frames branches limit []
no_units ts frames branches limit [] after u e = cc
no_units ts frames branches limit (b ∷ before) after u e = cc

pub one_more_unit : (ts : List Tree) (frames : List Frame) (branches : List Line) (limit : ℤ) (us : List Spent) (u : Spent)
    → AreUnits ts frames branches limit us → IsUnit ts frames branches limit us u → AreUnits ts frames branches limit (us ++ u ∷ [])
one_more_unit ts frames branches limit us u each one before after v e =
    elim (last_or_before us before after u v e) [
      | inl (same, last) ↦ subst (λ x. IsUnit ts frames branches limit before x) last (subst (λ xs. IsUnit ts frames branches limit xs u) same one)
      | inr (rest, same) ↦ each before rest v same
    ]

-- ---- reports

-- these branches and units are those of a check whose variables have one table of sums
pub record AreAllSpent (ts : List Tree) (frames : List Frame) (limit : ℤ) (branches : List Line) (us : List Spent) : Type 0 where
  pub count : length us ≡ most_units limit
  pub sums : List (List GridSummand)
  pub known : AreCheckSums ts frames sums
  pub are_branches : AreBranches ts frames sums branches
  pub units : AreUnits ts frames branches limit us
  pub chained : AreChained sums (IsBoundOf (IsCheckAtom ts frames branches)) (first_basis sums) None us

-- so are these branches and what leaves the range
pub record IsPastRange (ts : List Tree) (frames : List Frame) (branches : List Line) (seen : RangeSeen) : Type 0 where
  pub sums : List (List GridSummand)
  pub known : AreCheckSums ts frames sums
  pub are_branches : AreBranches ts frames sums branches
  pub leaves : LeavesRange ts frames sums (IsCheckAtom ts frames branches) seen

-- all units are spent, a number left the range, or memory was wanting
abbrev pub Shows : List Tree → List Frame → ℤ → List Line → Cause → Type 0
Shows ts frames limit branches (Units us) = AreAllSpent ts frames limit branches us
Shows ts frames limit branches (Range seen) = IsPastRange ts frames branches seen
Shows ts frames limit branches Memory = Unit {0}

-- one report of each worker, in order from 0
pub record AreReports (workers : ℕ) (ts : List Tree) (frames : List Frame) (limit : ℤ) (rs : List Report) : Type 0 where
  pub one_each : map (λ (r : Report). r.worker) rs ≡ range_with_len 0 workers
  pub shown : All (λ (r : Report). Shows ts frames limit r.branches r.cause) rs

-- ---- the reason of an unknown answer

abbrev pub wants_memory : Report → Bool
wants_memory r = elim r.cause [ Memory ↦ true | Units us ↦ false | Range seen ↦ false ]

abbrev pub reason_of : List Report → UnknownReason
reason_of rs = if list_any wants_memory rs then Memout else Incomplete
