-- Marking the parts of the assertions.
use Rattle.std.specs.Prelude.{◌≡◌, ◌⊎◌, ℕ, ◌≤◌, ◌<◌, Bool, List, length, All, Contains}
use Rattle.smt_meaning.specs.declared.terms.Head.{Head}
use Rattle.smt_meaning.specs.Term.{Tree, tree_at}
use Rattle.smt_meaning.specs.Report.{IsPartOfStack}
use Rattle.smt_meaning.specs.StackCommand.{Stack}
use Rattle.term_store.specs.Terms.{tree_with}
use Rattle.scope_stack.specs.declared.answers.Assertion.{Assertion}
use Rattle.check_atoms.specs.Parts.{IsMarked}

-- these places are marked, beside those that were before
pub record MarksAlso (old : List Bool) (places : List ℕ) (new : List Bool) : Type 0 where
  pub size : length new ≡ length old
  pub these : All (IsMarked new) places
  pub stay : (p : ℕ) → IsMarked old p → IsMarked new p
  pub only : (p : ℕ) → IsMarked new p → IsMarked old p ⊎ Contains places p

-- the arguments of each marked term from this place on are marked
abbrev pub AreClosedFrom : List Tree → ℕ → List Bool → Type 0
AreClosedFrom trees k marks =
    (p : ℕ) (h : Head) (is : List ℕ) → k ≤ p → IsMarked marks p → tree_at trees p ≡ tree_with trees h is → All (λ i. i < length trees) is → All (IsMarked marks) is

-- each marked term is a part of an assertion, and from this place on its arguments are marked
pub record AreMarkedFrom (s : Stack) (k : ℕ) (marks : List Bool) : Type 0 where
  pub size : length marks ≡ length s.trees
  pub only : (p : ℕ) → IsMarked marks p → IsPartOfStack s.frames (tree_at s.trees p)
  pub closed : AreClosedFrom s.trees k marks

-- the terms of the assertions are marked, and of each marked term its arguments
pub record AreMarked (s : Stack) (xs : List Assertion) (k : ℕ) (marks : List Bool) : Type 0 where
  pub parts : AreMarkedFrom s k marks
  pub asserted : All (λ (a : Assertion). IsMarked marks a.term) xs

-- exactly the parts of the assertions are marked
pub record AreStackParts (s : Stack) (marks : List Bool) : Type 0 where
  pub only : (p : ℕ) → IsMarked marks p → IsPartOfStack s.frames (tree_at s.trees p)
  pub each : (t : Tree) → IsPartOfStack s.frames t → (p : ℕ) × IsMarked marks p × (tree_at s.trees p ≡ t)
