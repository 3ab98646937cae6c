use Rattle.std.proofs.Common.{◌≡◌, ◌+◌, ◌≤◌, ◌++◌, map, All, vec_len, vec_capacity}
use Rattle.std.specs.Prelude.{reverse}
use Rattle.race_cell.specs.Passes.{claim_of, IsPassOf}
use Rattle.portfolio.specs.Jobs.{IsDone, worker_of, job_worker}
use Rattle.portfolio.specs.Tallies.{Tallied}
use Rattle.portfolio.proofs.race.gather.Given as goal

abbrev pub invariant-loop-job : goal.invariant-loop-job
invariant-loop-job g l = record {
  done : All (IsDone l.race.table.shared.table_id l.stack l.settings.units) l.jobs.items;
  all : All (IsPassOf l.race.table.shared.table_id) l.passes.items;
  workers : map worker_of l.passes.items ++ reverse (map job_worker l.jobs.items) ≡ reverse (map job_worker l.initial.jobs.items);
  tallied : Tallied l.stack l.settings.units (map claim_of l.passes.items) l.tally;
  room : vec_len l.passes + vec_len l.jobs ≤ vec_capacity l.passes;
  reports : vec_len l.tally.reports + vec_len l.jobs ≤ vec_capacity l.tally.reports;
}

abbrev pub decreases-loop-job : goal.decreases-loop-job
decreases-loop-job g l = goal.left-loop-job g l
