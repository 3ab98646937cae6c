use Rattle.std.proofs.Common.{take}
use Rattle.first_clauses.specs.CheckClausesFirst.{AreBools}
use Rattle.first_clauses.proofs.bools.all_are_bools.Given as goal

abbrev pub invariant-loop-place : goal.invariant-loop-place
invariant-loop-place l = AreBools l.sorts (take l.place-index l.places)
