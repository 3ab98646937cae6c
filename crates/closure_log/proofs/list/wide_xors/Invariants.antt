use Rattle.closure_log.specs.Parts.{AreWideXorsBelow}
use Rattle.closure_log.proofs.list.wide_xors.Given as goal

abbrev pub invariant-loop-place : goal.invariant-loop-place
invariant-loop-place l = AreWideXorsBelow l.stack.trees l.marks l.place l.parts.items
