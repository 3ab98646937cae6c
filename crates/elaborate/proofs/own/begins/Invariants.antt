use Rattle.std.proofs.Common.{◌≤◌, length}
use Rattle.elaborate.specs.Own.{AreAlike}
use Rattle.elaborate.proofs.own.begins.Given as goal

abbrev pub invariant-loop-id : goal.invariant-loop-id
invariant-loop-id l = (length l.short.trees ≤ length l.long.trees) × AreAlike l.id l.short.trees l.long.trees
