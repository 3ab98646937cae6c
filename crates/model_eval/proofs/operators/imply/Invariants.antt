use Rattle.std.proofs.Common.{◌≡◌, ◌<◌, length, drop}
use Rattle.smt_meaning.specs.Term.{right_assoc, on_truths, implies}
use Rattle.model_eval.proofs.operators.imply.Given as goal

abbrev pub invariant-loop-k : goal.invariant-loop-k
invariant-loop-k l = record { within : l.k < length l.arguments; value : l.from ≡ right_assoc (on_truths implies) (drop l.k l.arguments) }

abbrev pub decreases-loop-k : goal.decreases-loop-k
decreases-loop-k l = l.k
