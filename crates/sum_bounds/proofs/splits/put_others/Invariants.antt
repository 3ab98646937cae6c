use Rattle.std.proofs.Common.{take}
use Rattle.sum_bounds.specs.Splits.{AddsOthers}
use Rattle.sum_bounds.proofs.splits.put_others.Given as goal

abbrev pub invariant-loop-literal : goal.invariant-loop-literal
invariant-loop-literal l = AddsOthers l.initial.clause.items (take l.literal-index l.literals) l.clause.items
