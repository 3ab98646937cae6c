use Rattle.theory_combine.specs.Begin.{AddsLeaves}
use Rattle.theory_combine.specs.Columns.{HaveVariablesTo}
use Rattle.theory_combine.proofs.start.add_leaves.Given as goal

abbrev pub invariant-loop-place : goal.invariant-loop-place
invariant-loop-place l = record { adds : AddsLeaves l.stack l.initial.bounds l.bounds; variables : HaveVariablesTo l.stack l.marks l.place l.bounds }
