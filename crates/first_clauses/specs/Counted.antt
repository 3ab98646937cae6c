-- How many steps it takes to form the clauses: one for each part, and one for each pair that a `distinct` among the parts compares.
use Rattle.std.specs.Prelude.{◌≡◌, ℕ, zero, suc, ◌+◌, ◌<◌, Bool, true, false, List, [], ◌∷◌, slice_index_or, if◌then◌else◌}
use Rattle.smt_meaning.specs.declared.values.Sort.{Sort}
use Rattle.smt_meaning.specs.declared.terms.Operator.TheVariants.{True, Distinct}
use Rattle.smt_meaning.specs.declared.terms.Head.{Head}
use Rattle.smt_meaning.specs.declared.terms.Head.TheVariants.{Theory}
use Rattle.smt_meaning.specs.Term.{Tree, node, none, more, tree_at}
use Rattle.smt_meaning.specs.Kinds.{count_trees}
use Rattle.smt_meaning.specs.StackCommand.{Stack}
use Rattle.check_atoms.specs.Parts.{IsMarked}
use Rattle.check_atoms.specs.AssertedDistinct.{IsAssertedDistinct}
use Rattle.check_atoms.specs.OfStack.{IsNode}
use Rattle.order_clauses.specs.Counted.{distinct_pairs, pairs_of_part}

-- ---- at most

-- the pairs that a term compares, if it is a `distinct`
abbrev pub pairs_of_tree : Tree → ℕ
pairs_of_tree (node (Theory o) ts) = distinct_pairs o (count_trees ts)
pairs_of_tree (node h ts) = 0

-- so many, if the place is marked
abbrev pub if_marked : List Bool → ℕ → ℕ → ℕ
if_marked marks p n = if slice_index_or marks p false then n else 0

-- how many of the first places are marked
abbrev pub parts_below : List Bool → ℕ → ℕ
parts_below marks zero = 0
parts_below marks (suc p) = parts_below marks p + if_marked marks p 1

-- the pairs that the terms at these compare
abbrev pub pairs_below : List Tree → List Bool → ℕ → ℕ
pairs_below trees marks zero = 0
pairs_below trees marks (suc p) = pairs_below trees marks p + if_marked marks p (pairs_of_tree (tree_at trees p))

-- the parts stand at so many first places
abbrev pub AreBelow : List Bool → ℕ → Type 0
AreBelow marks n = (p : ℕ) → IsMarked marks p → p < n

-- ---- exactly

-- the pairs whose equalities the clauses of such a node are over
abbrev pub pairs_of_node : List Sort → Head → List ℕ → ℕ
pairs_of_node sorts (Theory o) is = pairs_of_part sorts o is
pairs_of_node sorts h is = 0

-- between the two counts there are those of the node at a place: of an asserted wide `distinct` none
pub record ComparesPairs (s : Stack) (sorts : List Sort) (p : ℕ) (h : Head) (is : List ℕ) (before now : ℕ) : Type 0 where
  pub asserted : IsAssertedDistinct s p h is → now ≡ before
  pub others : (IsAssertedDistinct s p h is → ⊥) → now ≡ before + pairs_of_node sorts h is

-- there is a step for the node and one for each of its pairs, if the place is marked
pub record TakesSteps (s : Stack) (marks : List Bool) (sorts : List Sort) (p before now : ℕ) : Type 0 where
  pub part : (h : Head) (is : List ℕ) → IsMarked marks p → IsNode s.trees p h is → ComparesPairs s sorts p h is (before + 1) now
  pub other : (IsMarked marks p → ⊥) → now ≡ before

-- there are those of the first places, one after another
abbrev pub TakesStepsBelow : Stack → List Bool → List Sort → ℕ → ℕ → ℕ → Type 0
TakesStepsBelow s marks sorts zero before now = now ≡ before
TakesStepsBelow s marks sorts (suc p) before now = (n : ℕ) × TakesStepsBelow s marks sorts p before n × TakesSteps s marks sorts p n now

-- ---- examples

-- of four terms a `distinct` compares six pairs; where the one tree is `true` and is marked, there is one step, and not none
pub record StepsAreCounted : Type 0 where
  pub of_four : (t : Tree) → pairs_of_tree (node (Theory Distinct) (more t (more t (more t (more t none))))) ≡ 6
  pub of_true : (s : Stack) (sorts : List Sort) → s.trees ≡ node (Theory True) none ∷ [] → TakesStepsBelow s (true ∷ []) sorts 1 0 1
  pub not_none : (s : Stack) (sorts : List Sort) → s.trees ≡ node (Theory True) none ∷ [] → TakesStepsBelow s (true ∷ []) sorts 1 0 0 → ⊥
