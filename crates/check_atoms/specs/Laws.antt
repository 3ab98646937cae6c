-- What holds of the numbered atoms, and of a refusal.
use Rattle.std.specs.Prelude.{◌≡◌, ◌≢◌, ◌⊎◌, ℕ, ◌<◌, Bool, true, Some, List, map, length, All, Contains, IsTrue}
use Rattle.smt_meaning.specs.declared.values.Sort.{Sort}
use Rattle.smt_meaning.specs.declared.values.Sort.TheVariants.{Bool as Truths, Int as Ints}
use Rattle.smt_meaning.specs.declared.terms.Operator.{Operator}
use Rattle.smt_meaning.specs.declared.terms.Operator.TheVariants.{Equal, Distinct, Ite}
use Rattle.smt_meaning.specs.declared.terms.Head.{Head}
use Rattle.smt_meaning.specs.declared.terms.Head.TheVariants.{Theory}
use Rattle.smt_meaning.specs.declared.clauses.Atom.{Atom}
use Rattle.smt_meaning.specs.declared.clauses.Atom.TheVariants.{Truth, Same}
use Rattle.smt_meaning.specs.Term.{tree_at}
use Rattle.smt_meaning.specs.Signature.{tree_sort, is_bool}
use Rattle.smt_meaning.specs.Stack.{Frame, signature_of}
use Rattle.smt_meaning.specs.StackCommand.{Stack}
use Rattle.smt_meaning.specs.Linear.{linear_form, form_fits}
use Rattle.smt_meaning.specs.Clause.{atom_places}
use Rattle.smt_meaning.specs.Atoms.{at_most_atom, stack_atoms}
use Rattle.smt_meaning.specs.CheckAtoms.{IsPartOfStack, IsFirstAtom, is_leaf}
use Rattle.smt_meaning.specs.Ranges.{LeavesInPart, LeavesInPair}
use Rattle.smt_laws.specs.Flat.{flat}
use Rattle.smt_laws.specs.Rows.{place_divisor}
use Rattle.scope_stack.specs.Shown.{IsLawful}
use Rattle.check_atoms.specs.Parts.{IsMarked}
use Rattle.check_atoms.specs.Marks.{AreStackParts}
use Rattle.bound_clauses.specs.declared.orders.Sense.{Sense}
use Rattle.bound_clauses.specs.declared.orders.Sense.TheVariants.{NotAbove, Below}
use Rattle.bound_clauses.specs.declared.orders.Order.{Order}
use Rattle.check_atoms.specs.declared.refusal.Refusal.TheVariants.{Term, Pair}
use Rattle.bound_clauses.specs.Orders.{order_atoms, bound_atom}
use Rattle.bound_clauses.specs.Laws.{orders}
use Rattle.check_atoms.specs.PartAtoms.{atom_of, sort_of, of_equal, of_distinct, with_branches, of_rows}
use Rattle.check_atoms.specs.AssertedDistinct.{IsAssertedDistinct}
use Rattle.check_atoms.specs.OfStack.{IsNode, AreCheckAtoms, IsRefused}

-- the equality of two Bools
pub record IsSameOfBools (s : Stack) (a : Atom) : Type 0 where
  pub left : ℕ
  pub right : ℕ
  pub atom : a ≡ Same left right
  pub bool : is_bool (tree_sort (signature_of s.frames) (tree_at s.trees left)) ≡ true

-- the equality of two terms of a sort that isn't Int
pub record IsSameOfNoInts (s : Stack) (a : Atom) : Type 0 where
  pub left : ℕ
  pub right : ℕ
  pub sort : Sort
  pub atom : a ≡ Same left right
  pub has_sort : tree_sort (signature_of s.frames) (tree_at s.trees left) ≡ Some sort
  pub no_int : sort ≢ Ints

-- each of the stack's atoms is numbered, but for equalities of terms of a sort that isn't Int
abbrev pub StackAtomsAreNumbered : Type 0
StackAtomsAreNumbered =
    (s : Stack) (marks : List Bool) (atoms : List Atom) → IsLawful s → AreStackParts s marks → AreCheckAtoms s marks atoms
    → All (λ (a : Atom). Contains atoms a ⊎ IsSameOfNoInts s a) (stack_atoms s.trees s.frames)

-- by these levels each numbered atom is one that a check begins with, no equality of Bools is, each of the stack's is numbered but for equalities of terms of a sort that isn't Int, and the marked
-- terms are parts
pub record AreFirstAtoms (s : Stack) (frames : List Frame) (marks : List Bool) (atoms : List Atom) : Type 0 where
  pub first : All (IsFirstAtom s.trees frames) atoms
  pub all : (a : Atom) → Contains (stack_atoms s.trees frames) a → Contains atoms a ⊎ IsSameOfNoInts s a
  pub no_bools : (a : Atom) → Contains atoms a → IsSameOfBools s a → ⊥
  pub parts : (p : ℕ) → IsMarked marks p → IsPartOfStack frames (tree_at s.trees p)

-- the numbered atoms are such by the levels of the stack, and by one level with all of them
abbrev pub AtomsAreFirst : Type 0
AtomsAreFirst =
    (s : Stack) (marks : List Bool) (atoms : List Atom) → IsLawful s → AreStackParts s marks → AreCheckAtoms s marks atoms → AreFirstAtoms s s.frames marks atoms × AreFirstAtoms s (flat s.frames) marks atoms

-- an Int at a marked place that is no numeral, sum, difference or product
pub record IsIntLeaf (s : Stack) (marks : List Bool) (p : ℕ) : Type 0 where
  pub within : p < length s.trees
  pub marked : IsMarked marks p
  pub int : tree_sort (signature_of s.frames) (tree_at s.trees p) ≡ Some Ints
  pub leaf : is_leaf (tree_at s.trees p) ≡ true

-- the sum of the bound of two Ints among the parts of a stack is over such leaves
abbrev pub BoundsAreOverLeaves : Type 0
BoundsAreOverLeaves =
    (s : Stack) (marks : List Bool) (left right : ℕ) → IsLawful s → AreStackParts s marks → length marks ≡ length s.trees → IsMarked marks left → IsMarked marks right
    → tree_sort (signature_of s.frames) (tree_at s.trees left) ≡ Some Ints → tree_sort (signature_of s.frames) (tree_at s.trees right) ≡ Some Ints
    → All (IsIntLeaf s marks) (atom_places (at_most_atom s.trees (tree_at s.trees left) (tree_at s.trees right)))

-- a term whose folding is refused is a part whose folding leaves the range
abbrev pub RefusedTermLeavesRange : Type 0
RefusedTermLeavesRange = (s : Stack) (part : ℕ) → IsLawful s → IsRefused s (Term part) → LeavesInPart s.trees s.frames part

-- of a pair that is refused the difference leaves the range, or for a strict bound what the part compares
abbrev pub PairLeavesRange : Stack → ℕ → Sense → ℕ → ℕ → Type 0
PairLeavesRange s part NotAbove left right = LeavesInPair s.trees s.frames left right
PairLeavesRange s part Below left right = LeavesInPart s.trees s.frames part

-- where the form of its first term is in the range
abbrev pub RefusedPairLeavesRange : Type 0
RefusedPairLeavesRange =
    (s : Stack) (part : ℕ) (o : Order) → IsLawful s → form_fits (linear_form s.trees (tree_at s.trees o.lesser)) ≡ true → IsRefused s (Pair part o)
    → PairLeavesRange s part o.sense o.lesser o.greater

-- what is numbered for a part with this operator: the bounds of a comparison, the atoms of the terms that it compares, unless it is an asserted wide `distinct`, and the bounds of the rows of a division
pub record HasNumbers (s : Stack) (atoms : List Atom) (p : ℕ) (o : Operator) (is : List ℕ) : Type 0 where
  pub comparison : IsTrue (orders o) → All (Contains atoms) (map (bound_atom s.trees) (order_atoms o is))
  pub equality : o ≡ Equal → All (Contains atoms) (map (atom_of s.trees) (of_equal (sort_of (signature_of s.frames) s.trees) is))
  pub different : o ≡ Distinct → IsAssertedDistinct s p (Theory o) is ⊎ All (Contains atoms) (map (atom_of s.trees) (of_distinct (sort_of (signature_of s.frames) s.trees) is))
  pub choice : o ≡ Ite → All (Contains atoms) (map (atom_of s.trees) (with_branches (sort_of (signature_of s.frames) s.trees) p is))
  pub division : All (Contains atoms) (map (atom_of s.trees) (of_rows (place_divisor s.trees is) o p is))

abbrev pub PartsHaveNumbers : Type 0
PartsHaveNumbers =
    (s : Stack) (marks : List Bool) (atoms : List Atom) → AreCheckAtoms s marks atoms → (p : ℕ) (o : Operator) (is : List ℕ) → IsMarked marks p → IsNode s.trees p (Theory o) is → HasNumbers s atoms p o is

-- the truth of each part that is a Bool is numbered
abbrev pub TruthsHaveNumbers : Type 0
TruthsHaveNumbers =
    (s : Stack) (marks : List Bool) (atoms : List Atom) → AreCheckAtoms s marks atoms → (p : ℕ) (h : Head) (is : List ℕ) → IsMarked marks p → IsNode s.trees p h is
    → is_bool (sort_of (signature_of s.frames) s.trees p) ≡ true → Contains atoms (Truth p)

-- each numbered truth is that of a part that is a Bool
abbrev pub TruthsAreOfBools : Type 0
TruthsAreOfBools =
    (s : Stack) (marks : List Bool) (atoms : List Atom) → AreCheckAtoms s marks atoms → (p : ℕ) → Contains atoms (Truth p)
    → IsMarked marks p × (sort_of (signature_of s.frames) s.trees p ≡ Some Truths)
