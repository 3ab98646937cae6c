use Rattle.congruence.specs.Recorded.{IsRecorded}
use Rattle.unit_tests.proofs.conflicts.take_all.Given as goal

abbrev pub invariant-loop-at : goal.invariant-loop-at
invariant-loop-at g l = IsRecorded l.congruence
