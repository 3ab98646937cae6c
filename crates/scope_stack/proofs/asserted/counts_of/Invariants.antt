use Rattle.scope_stack.proofs.ThinLemmas.{CountsSoFar}
use Rattle.scope_stack.proofs.asserted.counts_of.Given as goal

abbrev pub invariant-loop-place : goal.invariant-loop-place
invariant-loop-place l = CountsSoFar l.kept l.place l.count l.counts.items
