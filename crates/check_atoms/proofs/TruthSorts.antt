-- Each numbered truth is that of a part that is a Bool.
use Rattle.std.proofs.Common.{◌≡◌, inl, inr, ℕ, Bool, List, [], ◌∷◌, Some, map, get_or, All, subst, sym, ◌∙◌, refl}
use Rattle.std.specs.Prelude.{ℤ}
use Rattle.std.proofs.lemmas.List.Elements.{All-map, All-head, All-contains}
use Rattle.smt_meaning.specs.declared.values.Sort.TheVariants.{Bool as Truths}
use Rattle.smt_meaning.specs.declared.clauses.Summand.{Summand}
use Rattle.smt_meaning.specs.declared.clauses.Atom.{Atom}
use Rattle.smt_meaning.specs.declared.clauses.Atom.TheVariants.{Truth as TruthAtom, Same as SameAtom}
use Rattle.smt_meaning.specs.Term.{Tree, tree_at}
use Rattle.smt_meaning.specs.Stack.{signature_of}
use Rattle.smt_meaning.specs.StackCommand.{Stack}
use Rattle.smt_meaning.specs.Clause.{atom_places}
use Rattle.smt_meaning.specs.Atoms.{normal_bound}
use Rattle.smt_laws.specs.Rows.{place_divisor}
use Rattle.bound_clauses.specs.declared.orders.Sense.{Sense}
use Rattle.bound_clauses.specs.declared.orders.Sense.TheVariants.{NotAbove, Below}
use Rattle.bound_clauses.specs.Orders.{atom_of as order_atom}
use Rattle.check_atoms.specs.Parts.{IsMarked}
use Rattle.check_atoms.specs.declared.part.PartAtom.{PartAtom}
use Rattle.check_atoms.specs.declared.part.PartAtom.TheVariants.{Truth, Same, Bound, Limit}
use Rattle.check_atoms.specs.PartAtoms.{atom_of, sort_of}
use Rattle.check_atoms.specs.OfStack.{IsAtomOfPart, ComparesMarked, part_atoms}
use Rattle.check_atoms.specs.Laws.{TruthsAreOfBools}
use Rattle.check_atoms.proofs.PartPlaces.{part_any}

normal_no_truth : (sum : List Summand) (k : ℤ) (p : ℕ) → normal_bound sum k ≡ TruthAtom p → ⊥
normal_no_truth [] k p e = cc
normal_no_truth (q ∷ qs) k p e = cc

order_no_truth : (sense : Sense) (ts : List Tree) (t u : Tree) (p : ℕ) → order_atom sense ts t u ≡ TruthAtom p → ⊥
order_no_truth NotAbove ts t u p e = normal_no_truth _ _ p e
order_no_truth Below ts t u p e = normal_no_truth _ _ p e

one_place : (p q : ℕ) → TruthAtom p ≡ TruthAtom q → p ≡ q
one_place p q e = cc

no_equality : (i j p : ℕ) → SameAtom i j ≡ TruthAtom p → ⊥
no_equality i j p e = cc

module _ (s : Stack) where
  abbrev IsBool : ℕ → Type 0
  IsBool p = sort_of (signature_of s.frames) s.trees p ≡ Some Truths

  abbrev IsBoolPart : PartAtom → Type 0
  IsBoolPart (Truth p) = IsBool p
  IsBoolPart (Same i j) = Unit {0}
  IsBoolPart (Bound o) = Unit {0}
  IsBoolPart (Limit l) = Unit {0}

  abbrev IsOfBool : Atom → Type 0
  IsOfBool a = (p : ℕ) → a ≡ TruthAtom p → IsBool p

  of_bool : (x : PartAtom) → IsBoolPart x → IsOfBool (atom_of s.trees x)
  of_bool (Truth q) h p e = subst IsBool (one_place q p e) h
  of_bool (Same i j) h p e = absurd (no_equality i j p e)
  of_bool (Bound o) h p e = absurd (order_no_truth o.sense s.trees (tree_at s.trees o.lesser) (tree_at s.trees o.greater) p e)
  of_bool (Limit l) h p e = absurd (normal_no_truth _ _ p e)

  part_of_bool : (marks : List Bool) (a : Atom) → IsAtomOfPart s marks a → IsOfBool a
  part_of_bool marks a o =
      let xs = part_atoms s o.place o.head o.arguments in
      let parts : All IsBoolPart xs =
      part_any IsBoolPart (λ i j. tt) (λ b. tt) (sort_of (signature_of s.frames) s.trees) (place_divisor s.trees o.arguments) o.place (λ e. e) o.head o.arguments (λ p e k d l. tt) in
      All-contains IsOfBool (map (atom_of s.trees) xs) a (All-map IsOfBool (atom_of s.trees) xs (λ k d l. of_bool (get_or xs k d) (parts k d l))) o.among

  chord_of_bool : (marks : List Bool) (a : Atom) → ComparesMarked s marks a → IsOfBool a
  chord_of_bool marks a o p e = absurd (no_equality o.left o.right p (sym o.atom ∙ e))

pub truths_of_bools : TruthsAreOfBools
truths_of_bools s marks atoms are p among = (
  All-head (IsMarked marks) p [] (All-contains (λ (a : Atom). All (IsMarked marks) (atom_places a)) atoms (TruthAtom p) are.over_parts among),
  elim (are.only (TruthAtom p) among) [
    | inl part ↦ part_of_bool s marks (TruthAtom p) part p refl
    | inr chord ↦ chord_of_bool s marks (TruthAtom p) chord p refl
  ],
)
