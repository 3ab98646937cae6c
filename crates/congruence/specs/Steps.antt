-- What the truth of an atom says of points, as steps of a closure.
use Rattle.std.specs.Prelude.{ℕ, ◌+◌, Bool, true, false, not, nat_eq, List, [], ◌∷◌, if◌then◌else◌}
use Rattle.smt_meaning.specs.declared.terms.Operator.TheVariants.{Equal, Distinct, Ite}
use Rattle.smt_meaning.specs.declared.terms.Head.{Head}
use Rattle.smt_meaning.specs.declared.terms.Head.TheVariants.{Theory}
use Rattle.point_closure.specs.declared.step.Step.{Step}
use Rattle.point_closure.specs.declared.step.Step.TheVariants.{Merge, Differ}
use Rattle.congruence.specs.Reading.{truth_number}

abbrev pub equal_terms : ℕ → ℕ → Step
equal_terms i j = Merge (i + 2) (j + 2)

abbrev pub different_terms : ℕ → ℕ → Step
different_terms i j = Differ (i + 2) (j + 2)

-- a term has a truth value
abbrev pub truth_step : ℕ → Bool → Step
truth_step t v = Merge (t + 2) (truth_number v)

-- two terms are equal, or they differ
abbrev pub pair_step : ℕ → ℕ → Bool → Step
pair_step i j true = equal_terms i j
pair_step i j false = different_terms i j

-- each two neighbours are equal
abbrev pub neighbours_equal : ℕ → List ℕ → List Step
neighbours_equal i [] = []
neighbours_equal i (j ∷ js) = equal_terms i j ∷ neighbours_equal j js

abbrev pub all_equal : List ℕ → List Step
all_equal [] = []
all_equal (i ∷ is) = neighbours_equal i is

-- the same of two terms, and nothing of more
abbrev pub pair_steps : List ℕ → Bool → List Step
pair_steps (i ∷ j ∷ []) equal = pair_step i j equal ∷ []
pair_steps _ equal = []

abbrev pub equality_steps : List ℕ → Bool → List Step
equality_steps is true = all_equal is
equality_steps is false = pair_steps is false

-- what the truth of a term says of its arguments
abbrev pub node_steps : Head → List ℕ → Bool → List Step
node_steps (Theory Equal) is v = equality_steps is v
node_steps (Theory Distinct) is v = pair_steps is (not v)
node_steps _ is v = []

-- the choice at this place is equal to the branch that its condition takes
abbrev pub branch_step : ℕ → ℕ → ℕ → Bool → Step
branch_step p i j v = equal_terms p (if v then i else j)

-- what the truth of a condition says of the term at a place, if that is a choice by it
abbrev pub choice_steps : ℕ → Head → List ℕ → ℕ → Bool → List Step
choice_steps p (Theory Ite) (c ∷ i ∷ j ∷ []) condition v = if nat_eq c condition then branch_step p i j v ∷ [] else []
choice_steps p _ _ condition v = []
