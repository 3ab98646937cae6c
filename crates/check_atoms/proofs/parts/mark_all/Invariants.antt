use Rattle.std.proofs.Common.{take}
use Rattle.check_atoms.specs.Marks.{MarksAlso}
use Rattle.check_atoms.proofs.parts.mark_all.Given as goal

abbrev pub invariant-loop-place : goal.invariant-loop-place
invariant-loop-place l = MarksAlso l.fn.marks.items (take l.place-index l.places) l.marks.items
