-- A `distinct` of which two arguments are equal in a closure.
use Rattle.std.specs.Prelude.{◌≡◌, ℕ, ◌<◌, true, List, length, All, Contains, slice_index_or}
use Rattle.literals.specs.Signed.{Signed}
use Rattle.smt_meaning.specs.declared.clauses.Atom.{Atom}
use Rattle.smt_meaning.specs.declared.clauses.Atom.TheVariants.{Truth}
use Rattle.smt_meaning.specs.declared.terms.Operator.TheVariants.{Distinct}
use Rattle.smt_meaning.specs.declared.terms.Head.TheVariants.{Theory}
use Rattle.smt_meaning.specs.Term.{Tree, tree_at}
use Rattle.smt_meaning.specs.StackCommand.{Stack}
use Rattle.smt_meaning.specs.Atoms.{most_compared}
use Rattle.term_store.specs.Terms.{tree_with}
use Rattle.congruence.specs.declared.congruence.Congruence.{Congruence}
use Rattle.congruence.specs.Recorded.{AreEqualTerms}
use Rattle.check_atoms.specs.AssertedDistinct.{IsAssertedDistinct}
use Rattle.check_atoms.specs.OfStack.{IsNode}
use Rattle.closure_log.specs.declared.distinct.EqualArguments.{EqualArguments}
use Rattle.closure_log.specs.Read.{IsToldTruth}
use Rattle.closure_log.specs.Whole.{Gives}

-- the term at this place is a `distinct` of the terms at these
pub record IsDistinct (ts : List Tree) (p : ℕ) (is : List ℕ) : Type 0 where
  pub tree : tree_at ts p ≡ tree_with ts (Theory Distinct) is
  pub within : All (λ i. i < length ts) is

-- two of these terms are equal in the closure
pub record AreEqualAmong (c : Congruence) (is : List ℕ) (e : EqualArguments) : Type 0 where
  pub earlier : e.earlier < e.later
  pub later : e.later < length is
  pub equal : AreEqualTerms c (slice_index_or is e.earlier 0) (slice_index_or is e.later 0)

-- the log tells by this literal that the term is true
pub record IsToldTrue (table : List Atom) (log : List Signed) (p : ℕ) (l : Signed) : Type 0 where
  pub told : IsToldTruth table log p l
  pub positive : l.positive ≡ true

-- no two of these terms are equal in the closure
abbrev pub AreAllApart : Congruence → List ℕ → Type 0
AreAllApart c is = (j k : ℕ) → j < k → k < length is → AreEqualTerms c (slice_index_or is j 0) (slice_index_or is k 0) → ⊥

-- nor are two of the arguments of the term at a place, if it is a `distinct` and the log tells that it is true
abbrev pub KeepsDistinct : List Tree → List Atom → List Signed → Congruence → ℕ → Type 0
KeepsDistinct ts table log c p = (is : List ℕ) → IsDistinct ts p is → Gives table log (Truth p) true → AreAllApart c is

-- the places of this tree, if it is a `distinct` of more terms than are compared, are among these
abbrev pub ListsWide : List Tree → List ℕ → Tree → Type 0
ListsWide ts ps t = (p : ℕ) (is : List ℕ) → IsNode ts p (Theory Distinct) is → most_compared < length is → tree_at ts p ≡ t → Contains ps p

-- each asserted wide `distinct` is among these places
abbrev pub AreAssertedDistincts : Stack → List ℕ → Type 0
AreAssertedDistincts s ps = (p : ℕ) (is : List ℕ) → IsNode s.trees p (Theory Distinct) is → IsAssertedDistinct s p (Theory Distinct) is → Contains ps p
