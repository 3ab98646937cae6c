use Rattle.std.proofs.Common.{◌≡◌, ◌+◌, ◌≤◌, ◌++◌, map, All, vec_len, vec_capacity}
use Rattle.std.specs.Prelude.{reverse}
use Rattle.atomic_table.specs.Seated.{TableId}
use Rattle.smt_meaning.specs.StackCommand.{Stack}
use Rattle.portfolio.specs.Jobs.{IsFreshPass, IsReady, worker_of, job_worker}
use Rattle.portfolio.proofs.race.jobs_of.Given as goal

abbrev pub invariant-loop-pass : goal.invariant-loop-pass
invariant-loop-pass g l = record {
  fresh : (z : TableId) (s : Stack) → All (IsFreshPass z s) l.initial.passes.items → All (IsFreshPass z s) l.passes.items;
  ready : (z : TableId) (s : Stack) → All (IsFreshPass z s) l.initial.passes.items → All (IsReady z s) l.jobs.items;
  workers : map worker_of l.passes.items ++ reverse (map job_worker l.jobs.items) ≡ map worker_of l.initial.passes.items;
  len : vec_len l.passes + vec_len l.jobs ≡ vec_len l.initial.passes;
  room : vec_len l.initial.passes ≤ vec_capacity l.jobs;
  capacity : vec_capacity l.passes ≡ vec_capacity l.initial.passes;
}

abbrev pub decreases-loop-pass : goal.decreases-loop-pass
decreases-loop-pass g l = goal.left-loop-pass g l
