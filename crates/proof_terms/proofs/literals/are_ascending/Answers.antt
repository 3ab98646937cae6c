use Rattle.std.proofs.Common.{refl, arith}
use Rattle.proof_terms.proofs.LiteralsLeaves.{ascending_pairs}
use Rattle.proof_terms.proofs.literals.are_ascending.Goals as goal

pub returns : goal.returns
returns c = (λ t. ascending_pairs c.args.sum.now c.loop-i.i (omega arith) c.loop-i.invariant, λ h. refl)
