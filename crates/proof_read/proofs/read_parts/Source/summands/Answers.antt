use Rattle.proof_read.proofs.ReadForms.{so_far_more}
use Rattle.proof_read.proofs.read_parts.Source.summands.Goals as goal

pub loop-at-preserved : goal.loop-at-preserved
loop-at-preserved c = so_far_more _ _ _ _ _ _ _ _ _ _ c.loop-at.invariant c.in-Some.ensures c.in_ok-push.ensures.ok
