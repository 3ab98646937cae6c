use Rattle.std.proofs.Common.{◌-◌, ◌≤◌}
use Rattle.unit_tests.specs.Jobs.{IsReady}
use Rattle.unit_tests.proofs.jobs.work.Given as goal

abbrev pub invariant-loop-tries : goal.invariant-loop-tries
invariant-loop-tries l = record {
  ready : IsReady l.race.table.shared.table_id l.pass;
  few : l.shared ≤ l.tries;
  most : l.tries ≤ 10000000;
}

abbrev pub decreases-loop-tries : goal.decreases-loop-tries
decreases-loop-tries l = 10000000 - l.tries
