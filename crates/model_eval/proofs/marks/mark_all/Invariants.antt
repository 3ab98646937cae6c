use Rattle.std.proofs.Common.{take}
use Rattle.model_eval.specs.Walk.{AreAdded}
use Rattle.model_eval.proofs.marks.mark_all.Given as goal

abbrev pub invariant-loop-place : goal.invariant-loop-place
invariant-loop-place l = AreAdded (take l.place-index l.places) l.fn.marks l.marks
