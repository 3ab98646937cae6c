use Rattle.std.proofs.Common.{◌≡◌, replicate, take}
use Rattle.conflict_learn.specs.declared.analysis.Mark.TheVariants.{Unseen}
use Rattle.conflict_learn.proofs.analysis.hide.Given as goal

abbrev pub invariant-loop-mark : goal.invariant-loop-mark
invariant-loop-mark l = take l.mark-index l.marks ≡ replicate l.mark-index Unseen
