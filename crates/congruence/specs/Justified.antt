-- Steps that hold wherever a literal is true.
use Rattle.std.specs.Prelude.{◌≡◌, ◌≢◌, ℕ, ◌<◌, Bool, true, List, length}
use Rattle.literals.specs.Signed.{Signed, literal_true}
use Rattle.smt_meaning.specs.declared.clauses.Atom.{Atom}
use Rattle.smt_meaning.specs.Declaration.{Declaration}
use Rattle.smt_meaning.specs.Term.{Tree, Interpretation}
use Rattle.smt_meaning.specs.Interpretation.{Interprets}
use Rattle.smt_meaning.specs.Clause.{atom_true}
use Rattle.search_port.specs.State.{atom_at}
use Rattle.point_closure.specs.declared.step.Step.{Step}
use Rattle.point_closure.specs.declared.step.Step.TheVariants.{Merge, Differ}
use Rattle.point_closure.specs.Laws.{point_value}
use Rattle.point_closure.specs.Explained.{step_at}
use Rattle.congruence.specs.Reasons.{reason_at}

-- the points have one value, or two
abbrev pub StepHolds : List Tree → Interpretation → Step → Type 0
StepHolds ts I (Merge i j) = point_value ts I i ≡ point_value ts I j
StepHolds ts I (Differ i j) = point_value ts I i ≢ point_value ts I j

-- the truth of each number's atom under an interpretation
abbrev pub truth_by : List Tree → List Atom → Interpretation → ℕ → Bool
truth_by ts table I n = atom_true ts I (atom_at table n)

-- under every interpretation that makes the literal true the step holds
abbrev pub IsJustified : List Declaration → List Tree → List Atom → Signed → Step → Type 0
IsJustified ds ts table literal step =
    (I : Interpretation) → Interprets ds I → literal_true (truth_by ts table I) literal ≡ true → StepHolds ts I step

-- each step has a reason that justifies it
pub record AreJustified (ds : List Declaration) (ts : List Tree) (table : List Atom) (steps : List Step) (reasons : List Signed) : Type 0 where
  pub as_many : length reasons ≡ length steps
  pub each : (s : ℕ) → s < length steps → IsJustified ds ts table (reason_at reasons s) (step_at steps s)
