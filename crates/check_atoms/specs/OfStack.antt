-- The atoms that are numbered for the check of a stack.
use Rattle.std.specs.Prelude.{◌≡◌, ◌⊎◌, ℕ, ◌<◌, ◌≤◌, ◌^◌, Bool, List, [], Some, map, length, All, Contains}
use Rattle.smt_meaning.specs.declared.values.Sort.TheVariants.{Free}
use Rattle.smt_meaning.specs.declared.terms.Head.{Head}
use Rattle.smt_meaning.specs.declared.clauses.Atom.{Atom}
use Rattle.smt_meaning.specs.declared.clauses.Atom.TheVariants.{Truth, Same, AtMost}
use Rattle.smt_meaning.specs.Term.{Tree, tree_at}
use Rattle.smt_meaning.specs.Clause.{atom_places, sum_places}
use Rattle.smt_meaning.specs.CheckAtoms.{IsLeaf}
use Rattle.smt_meaning.specs.Stack.{signature_of}
use Rattle.smt_meaning.specs.StackCommand.{Stack}
use Rattle.smt_meaning.specs.Report.{IsPartOfStack}
use Rattle.smt_laws.specs.Rows.{place_divisor}
use Rattle.term_store.specs.Terms.{tree_with}
use Rattle.atom_form.specs.AtomTableNumbers.{AreApart}
use Rattle.search_port.specs.Valid.{IsOf}
use Rattle.check_atoms.specs.Parts.{IsMarked}
use Rattle.check_atoms.specs.declared.refusal.Refusal.{Refusal}
use Rattle.check_atoms.specs.declared.refusal.Refusal.TheVariants.{Memory}
use Rattle.check_atoms.specs.declared.part.PartAtom.{PartAtom}
use Rattle.check_atoms.specs.PartAtoms.{atom_of, truth_by_sort, compared_by_head, of_part, sort_of}
use Rattle.check_atoms.specs.AssertedDistinct.{IsAssertedDistinct}
use Rattle.check_atoms.specs.Numbering.{IsNormal, RefusesBound, RefusesRows, RefusesDivision}

-- the term at this place has this head, and its arguments are at these places
pub record IsNode (trees : List Tree) (p : ℕ) (h : Head) (is : List ℕ) : Type 0 where
  pub within : p < length trees
  pub tree : tree_at trees p ≡ tree_with trees h is
  pub arguments : All (λ i. i < length trees) is

-- the atoms of the term at a place
abbrev pub part_atoms : Stack → ℕ → Head → List ℕ → List PartAtom
part_atoms s p h is = of_part (sort_of (signature_of s.frames) s.trees) (place_divisor s.trees is) p h is

-- the truth of a term is among these, if it is a Bool, and the atoms that compare its arguments are, unless it is an asserted wide `distinct`
pub record HasAtoms (s : Stack) (atoms : List Atom) (p : ℕ) (h : Head) (is : List ℕ) : Type 0 where
  pub truth : All (Contains atoms) (map (atom_of s.trees) (truth_by_sort (sort_of (signature_of s.frames) s.trees p) p))
  pub compared : IsAssertedDistinct s p h is ⊎ All (Contains atoms) (map (atom_of s.trees) (compared_by_head (sort_of (signature_of s.frames) s.trees) (place_divisor s.trees is) h p is))

-- an atom of a part
pub record IsAtomOfPart (s : Stack) (marks : List Bool) (a : Atom) : Type 0 where
  pub place : ℕ
  pub head : Head
  pub arguments : List ℕ
  pub marked : IsMarked marks place
  pub term : IsNode s.trees place head arguments
  pub among : Contains (map (atom_of s.trees) (part_atoms s place head arguments)) a

-- the equality of two parts of one declared sort
pub record ComparesMarked (s : Stack) (marks : List Bool) (a : Atom) : Type 0 where
  pub left : ℕ
  pub right : ℕ
  pub sort : ℕ
  pub left_marked : IsMarked marks left
  pub right_marked : IsMarked marks right
  pub left_sort : sort_of (signature_of s.frames) s.trees left ≡ Some (Free sort)
  pub right_sort : sort_of (signature_of s.frames) s.trees right ≡ Some (Free sort)
  pub atom : a ≡ Same left right

-- the terms of a bound's sum
abbrev pub bound_terms : Atom → List ℕ
bound_terms (Truth p) = []
bound_terms (Same i j) = []
bound_terms (AtMost sum k) = sum_places sum

-- the atoms of the parts are numbered, but for the pairs of an asserted wide `distinct`, and beside them at most equalities of parts of one declared sort, each once; they are over parts and over what the stack declares
pub record AreCheckAtoms (s : Stack) (marks : List Bool) (atoms : List Atom) : Type 0 where
  pub size : length marks ≡ length s.trees
  pub few : length atoms ≤ 2 ^ 31
  pub apart : AreApart atoms
  pub only : (a : Atom) → Contains atoms a → IsAtomOfPart s marks a ⊎ ComparesMarked s marks a
  pub each : (p : ℕ) (h : Head) (is : List ℕ) → IsMarked marks p → IsNode s.trees p h is → HasAtoms s atoms p h is
  pub bounds : All (IsNormal (length s.trees)) atoms
  pub over_parts : All (λ (a : Atom). All (IsMarked marks) (atom_places a)) atoms
  pub leaves : All (λ (a : Atom). All (IsLeaf s.trees s.frames) (bound_terms a)) atoms
  pub declared : All (IsOf s.trees s.frames) atoms

-- a bound that compares terms of a part is refused, or one of its rows, or its divisor
pub record RefusesPart (s : Stack) (e : Refusal) : Type 0 where
  pub place : ℕ
  pub head : Head
  pub arguments : List ℕ
  pub part : IsPartOfStack s.frames (tree_at s.trees place)
  pub term : IsNode s.trees place head arguments
  pub atom : RefusesBound s.trees place (part_atoms s place head arguments) e ⊎ (RefusesRows s.trees place (part_atoms s place head arguments) e ⊎ RefusesDivision s.trees place arguments e)

-- memory is wanting, or a bound is refused
abbrev pub IsRefused : Stack → Refusal → Type 0
IsRefused s e = (e ≡ Memory) ⊎ RefusesPart s e

-- of the parts below a place the atoms are numbered, but for such pairs, and no others
pub record AreAtomsBelow (s : Stack) (marks : List Bool) (k : ℕ) (atoms : List Atom) : Type 0 where
  pub bounds : All (IsNormal (length s.trees)) atoms
  pub only : (a : Atom) → Contains atoms a → IsAtomOfPart s marks a
  pub each : (p : ℕ) (h : Head) (is : List ℕ) → p < k → IsMarked marks p → IsNode s.trees p h is → HasAtoms s atoms p h is
