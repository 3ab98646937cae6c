use Rattle.unit_tests.specs.Jobs.{IsReady}
use Rattle.unit_tests.proofs.tests.pair.count_turns.Given as goal

abbrev pub invariant-loop-is_second : goal.invariant-loop-is_second
invariant-loop-is_second l = record {
  first : IsReady l.race.table.shared.table_id l.first;
  second : IsReady l.race.table.shared.table_id l.second;
}
