use Rattle.model_eval.proofs.RowLemmas.{Seeks}
use Rattle.model_eval.proofs.rows.find.Given as goal

abbrev pub invariant-loop-link : goal.invariant-loop-link
invariant-loop-link l = Seeks l.rows l.default l.arguments l.link

abbrev pub decreases-loop-link : goal.decreases-loop-link
decreases-loop-link l = l.link
