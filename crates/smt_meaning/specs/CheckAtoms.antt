-- The atoms that a check may have, and the bounds that they put on sums.
use Rattle.std.specs.Prelude.{◌≡◌, ◌⊎◌, ℕ, Bool, true, false, List, [], ◌∷◌, map, ℤ, pos, ◌-ℤ◌, ◌*ℤ◌, ◌≤ℤ◌, neg_ℤ, Some, Contains, if◌then◌else◌}
use Rattle.fraction128.specs.declared.Summand.{Summand as GridSummand}
use Rattle.fraction128.specs.declared.Pending.{Pending}
use Rattle.fraction128.specs.declared.Side.{Side}
use Rattle.fraction128.specs.declared.Side.TheVariants.{Lower, Upper}
use Rattle.fraction128.specs.declared.Line.{Line}
use Rattle.fraction128.specs.Grid.{leaf, turned, bound_number, bounds_above}
use Rattle.fraction128.specs.declared.ratio.Ratio.{Ratio}
use Rattle.fraction128.specs.Number.{SameNumber}
use Rattle.fraction128.specs.Lines.{AreSums, IsPositive, IsRowIn, IsBranchLine, sum_value}
use Rattle.smt_meaning.specs.declared.values.Sort.TheVariants.{Int as Ints}
use Rattle.smt_meaning.specs.declared.terms.Operator.TheVariants.{Add, Subtract, Multiply}
use Rattle.smt_meaning.specs.declared.terms.Head.{Head}
use Rattle.smt_meaning.specs.declared.terms.Head.TheVariants.{Numeral, Theory}
use Rattle.smt_meaning.specs.declared.clauses.Summand.{Summand}
use Rattle.smt_meaning.specs.declared.clauses.Atom.{Atom}
use Rattle.smt_meaning.specs.declared.clauses.Atom.TheVariants.{Truth, AtMost, Same}
use Rattle.smt_meaning.specs.Term.{Tree, node}
use Rattle.smt_meaning.specs.TreeShape.{place_of}
use Rattle.smt_meaning.specs.Parts.{IsPart}
use Rattle.smt_meaning.specs.Signature.{tree_sort}
use Rattle.smt_meaning.specs.Stack.{Frame, signature_of, assertions_of}
use Rattle.smt_meaning.specs.Atoms.{pair_atoms, stack_atoms, positive, division_clauses}
use Rattle.smt_meaning.specs.Boxes.{IsInBox, asserted_atoms, term_at_most, negation_at_most}

-- ---- parts of the assertions

-- a part of an assertion
pub record IsPartOfStack (frames : List Frame) (t : Tree) : Type 0 where
  pub assertion : Tree
  pub asserted : Contains (assertions_of frames) assertion
  pub part : IsPart t assertion

-- an Int part, at a place
pub record IsIntPart (ts : List Tree) (frames : List Frame) (t : Tree) (place : ℕ) : Type 0 where
  pub part : IsPartOfStack frames t
  pub int : tree_sort (signature_of frames) t ≡ Some Ints
  pub place_is : place_of t ts ≡ place

-- whether a term with this head is a leaf of Int terms: no numeral, sum, difference or product
abbrev pub is_leaf_head : Head → Bool
is_leaf_head (Numeral n) = false
is_leaf_head (Theory Add) = false
is_leaf_head (Theory Subtract) = false
is_leaf_head (Theory Multiply) = false
is_leaf_head h = true

abbrev pub is_leaf : Tree → Bool
is_leaf (node h us) = is_leaf_head h

-- an Int leaf of the assertions
pub record IsLeaf (ts : List Tree) (frames : List Frame) (place : ℕ) : Type 0 where
  pub leaf : Tree
  pub part : IsIntPart ts frames leaf place
  pub is : is_leaf leaf ≡ true

-- ---- atoms before any branch

-- an atom that compares two parts of one sort
pub record ComparesParts (ts : List Tree) (frames : List Frame) (a : Atom) : Type 0 where
  pub left : Tree
  pub right : Tree
  pub left_part : IsPartOfStack frames left
  pub right_part : IsPartOfStack frames right
  pub one_sort : tree_sort (signature_of frames) left ≡ tree_sort (signature_of frames) right
  pub among : Contains (pair_atoms ts (signature_of frames) left right) a

-- a bound on a leaf, or on its negation, at a number of the leaf's box
pub record BoundsInBox (ts : List Tree) (frames : List Frame) (a : Atom) : Type 0 where
  pub term : ℕ
  pub number : ℤ
  pub leaf : IsLeaf ts frames term
  pub in_box : IsInBox ts frames term number
  pub among : Contains (term_at_most term number ∷ negation_at_most term (neg_ℤ number) ∷ []) a

abbrev pub IsFirstAtom : List Tree → List Frame → Atom → Type 0
IsFirstAtom ts frames a = Contains (stack_atoms ts frames) a ⊎ (ComparesParts ts frames a ⊎ BoundsInBox ts frames a)

-- ---- the bounds of literals

-- the sum as grids have it
abbrev pub grid_sum : List Summand → List GridSummand
grid_sum ps = map (λ (p : Summand). record { coefficient = p.coefficient; term = p.term }) ps

-- that the sum is at most the number, or that it isn't
abbrev pub told : List Summand → ℤ → Bool → Pending
told ps k positive = record { sum = grid_sum ps; number = k; holds = positive }

-- it bounds a sum on a side by a number, as a literal on one of the atoms says
pub record IsBoundOf (Is : Atom → Type 0) (sum : List GridSummand) (side : Side) (number : ℤ) : Type 0 where
  pub terms : List Summand
  pub most : ℤ
  pub positive : Bool
  pub atom : Is (AtMost terms most)
  pub sum_is : sum ≡ turned (grid_sum terms)
  pub side_is : side ≡ (if bounds_above (told terms most positive) then Upper else Lower)
  pub number_is : number ≡ bound_number (told terms most positive)

-- ---- what stands whatever is decided

-- one of these atoms is true wherever the assertions are: it is what an assertion, or a conjunct of one, says of neighbours; or they are a clause of a division
abbrev pub IsStanding : List Tree → List Frame → List Atom → Type 0
IsStanding ts frames standing =
    ((a : Atom) × Contains (asserted_atoms ts frames) a × (standing ≡ a ∷ [])) ⊎ ((t : Tree) × IsPartOfStack frames t × Contains (division_clauses ts t) (map positive standing))

-- the values of the terms, which may be fractions, meet the bound; of no other atom they say anything
abbrev pub Meets : (ℕ → Ratio) → Atom → Type 0
Meets w (AtMost ps k) = (sum_value w (grid_sum ps)).numerator ≤ℤ (k *ℤ pos (sum_value w (grid_sum ps)).denominator)
Meets w (Truth i) = Unit {0}
Meets w (Same i j) = Unit {0}

-- some values that meet what stands give the term this value
pub record IsReached (ts : List Tree) (frames : List Frame) (term : ℕ) (x : Ratio) : Type 0 where
  pub values : ℕ → Ratio
  pub positive : IsPositive values
  pub meets : (standing : List Atom) → IsStanding ts frames standing → (a : Atom) × Contains standing a × Meets values a
  pub value : SameNumber (values term) x

-- ---- branches

-- both sides of a branch of a leaf above the number k
abbrev pub branch_atoms : ℕ → ℤ → List Atom
branch_atoms t k = term_at_most t k ∷ negation_at_most t (neg_ℤ k -ℤ pos 1) ∷ []

-- a line of these variables over these atoms: the row of a leaf whose value isn't whole, where all values lie within their bounds and meet what stands
pub record IsBranch (ts : List Tree) (frames : List Frame) (sums : List (List GridSummand)) (Is : Atom → Type 0) (l : Line) : Type 0 where
  pub term : ℕ
  pub floor : ℤ
  pub is_leaf : IsLeaf ts frames term
  pub row : IsRowIn sums (IsBoundOf Is) l
  pub branches : IsBranchLine term floor l
  pub reached : IsReached ts frames term branches.basic.column.value

-- an atom that the branch adds
pub record IsOfBranch (l : Line) (a : Atom) : Type 0 where
  pub term : ℕ
  pub floor : ℤ
  pub branches : IsBranchLine term floor l
  pub among : Contains (branch_atoms term floor) a

abbrev pub WithBranch : (Atom → Type 0) → Line → Atom → Type 0
WithBranch Is l a = Is a ⊎ IsOfBranch l a

-- these atoms, and those of the branches
abbrev pub WithBranches : (Atom → Type 0) → List Line → Atom → Type 0
WithBranches Is [] a = Is a
WithBranches Is (l ∷ ls) a = WithBranches (WithBranch Is l) ls a

-- each branch is one over the atoms before it
abbrev pub EachIsBranch : List Tree → List Frame → List (List GridSummand) → (Atom → Type 0) → List Line → Type 0
EachIsBranch ts frames sums Is [] = Unit {0}
EachIsBranch ts frames sums Is (l ∷ ls) = IsBranch ts frames sums Is l × EachIsBranch ts frames sums (WithBranch Is l) ls

-- ---- the atoms of a check with these branches, and the sums of its variables

abbrev pub IsCheckAtom : List Tree → List Frame → List Line → Atom → Type 0
IsCheckAtom ts frames branches a = WithBranches (IsFirstAtom ts frames) branches a

abbrev pub AreBranches : List Tree → List Frame → List (List GridSummand) → List Line → Type 0
AreBranches ts frames sums branches = EachIsBranch ts frames sums (IsFirstAtom ts frames) branches

-- a leaf alone, or the sum of an atom before any branch, or of its negation: the atoms of branches are on leaves alone
pub data IsKnownSum (ts : List Tree) (frames : List Frame) (ps : List GridSummand) : Type 0 where
  of_leaf : (t : ℕ) → IsLeaf ts frames t → ps ≡ leaf t → IsKnownSum ts frames ps
  of_atom : (qs : List Summand) (k : ℤ) → IsFirstAtom ts frames (AtMost qs k) → ps ≡ turned (grid_sum qs) → IsKnownSum ts frames ps

-- the sums of the variables of a check, one table for all its grids and rows
abbrev pub AreCheckSums : List Tree → List Frame → List (List GridSummand) → Type 0
AreCheckSums ts frames sums = AreSums (IsKnownSum ts frames) sums
