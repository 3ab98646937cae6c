use Rattle.proof_read.proofs.ReadCompareLemmas.{Compares}
use Rattle.proof_read.proofs.read_apart.compare.Given as goal

abbrev pub invariant-loop-place : goal.invariant-loop-place
invariant-loop-place l = Compares l.count l.left l.right l.place l.lead
