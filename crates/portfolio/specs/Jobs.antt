-- What the workers of a race begin with, and what they leave.
use Rattle.std.specs.Prelude.{◌≡◌, ℕ, [], ℤ, Option, Some, None, IsSomeAnd}
use Rattle.atomic_table.specs.Seated.{TableId}
use Rattle.smt_meaning.specs.StackCommand.{Stack}
use Rattle.race_model.specs.declared.shelf.Shelf.{Ghosts}
use Rattle.race_cell.specs.declared.race.Pass.{Pass}
use Rattle.race_cell.specs.Passes.{base_of, claim_of, IsSamePass}
use Rattle.worker.specs.declared.outcome.Outcome.{Outcome}
use Rattle.worker.specs.Outcome.{IsOutcome, MemoryAloneIsReported}
use Rattle.portfolio.specs.declared.job.Job.{Job}

module _ {S : Type 0} {G : Ghosts S} where
  -- a pass of the race that this table has, over the stack, whose worker has done nothing yet
  pub record IsFreshPass (z : TableId) (s : Stack) (p : Pass S G) : Type 0 where
    pub race : p.seat.table_id ≡ z
    pub base : (base_of G.state p).base ≡ record { trees = s.trees; frames = s.frames }
    pub unstarted : (claim_of p).own ≡ []

  -- the pass of the same worker again, and what its part of a race came to
  pub record HasTaken (s : Stack) (limit : ℤ) (old new : Pass S G) (o : Outcome) : Type 0 where
    pub same : IsSamePass old new
    pub worker : (claim_of new).worker ≡ (claim_of old).worker
    pub outcome : IsOutcome s limit (claim_of new) o
    pub memory : MemoryAloneIsReported s.frames limit o

  -- a pass of the race, and what its worker's part came to
  pub record HasEnded (z : TableId) (s : Stack) (limit : ℤ) (p : Pass S G) (o : Outcome) : Type 0 where
    pub race : p.seat.table_id ≡ z
    pub outcome : IsOutcome s limit (claim_of p) o
    pub memory : MemoryAloneIsReported s.frames limit o

  abbrev pub IsReady : TableId → Stack → Job S G → Type 0
  IsReady z s j = IsSomeAnd j.pass (IsFreshPass z s)

  -- the pass is there again, with an outcome
  abbrev pub IsDone : TableId → Stack → ℤ → Job S G → Type 0
  IsDone z s limit j = IsSomeAnd j.pass (λ p. IsSomeAnd j.outcome (HasEnded z s limit p))

  -- the number of a pass's worker
  abbrev pub worker_of : Pass S G → ℕ
  worker_of p = (claim_of p).worker

  abbrev pub worker_in : Option (Pass S G) → ℕ
  worker_in None = 0
  worker_in (Some p) = worker_of p

  -- the number of a job's worker
  abbrev pub job_worker : Job S G → ℕ
  job_worker j = worker_in j.pass

  -- one that was ready is done, by the same worker
  pub record IsWorked (z : TableId) (s : Stack) (limit : ℤ) (old new : Job S G) : Type 0 where
    pub done : IsDone z s limit new
    pub worker : job_worker new ≡ job_worker old
