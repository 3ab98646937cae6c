use Rattle.std.proofs.Common.{take}
use Rattle.closure_log.specs.Parts.{KeepsXors}
use Rattle.closure_log.proofs.clause.broken.Given as goal

abbrev pub invariant-loop-place : goal.invariant-loop-place
invariant-loop-place l = KeepsXors l.stack.trees l.atoms.atoms l.log (take l.place-index l.parts)
