use Rattle.std.proofs.Common.{◌≡◌, drop}
use Rattle.smt_meaning.specs.Term.{pairwise, differ}
use Rattle.model_eval.proofs.operators.distinct.Given as goal

abbrev pub invariant-loop-i : goal.invariant-loop-i
invariant-loop-i l = pairwise differ (drop l.i l.arguments) ≡ pairwise differ l.arguments
