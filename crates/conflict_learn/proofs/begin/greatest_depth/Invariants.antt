use Rattle.std.proofs.Common.{take}
use Rattle.conflict_learn.specs.Analysing.{IsGreatest}
use Rattle.conflict_learn.proofs.begin.greatest_depth.Given as goal

abbrev pub invariant-loop-literal : goal.invariant-loop-literal
invariant-loop-literal l = IsGreatest l.store.trail.steps (take l.literal-index l.literals) l.greatest
