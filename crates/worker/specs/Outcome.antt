-- What a worker's part in a race comes to.
use Rattle.std.specs.Prelude.{◌≡◌, ℕ, ◌+◌, ℤ, true, List, Contains}
use Rattle.smt_meaning.specs.declared.reports.Cause.TheVariants.{Memory}
use Rattle.smt_meaning.specs.declared.reports.Report.{Report as ReportValue}
use Rattle.smt_meaning.specs.Stack.{Frame, HasNoModel}
use Rattle.smt_meaning.specs.StackCommand.{Stack}
use Rattle.smt_meaning.specs.Kinds.{has_no_integers}
use Rattle.smt_meaning.specs.Report.{Shows, is_unlimited}
use Rattle.smt_meaning.specs.Model.{IsModel}
use Rattle.race_cell.specs.declared.action.Action.TheVariants.{Win}
use Rattle.race_cell.specs.declared.view.Claim.{Claim}
use Rattle.worker.specs.declared.outcome.Answer.{Answer as AnswerValue}
use Rattle.worker.specs.declared.outcome.Answer.TheVariants.{Sat, Unsat}
use Rattle.worker.specs.declared.outcome.Outcome.{Outcome}
use Rattle.worker.specs.declared.outcome.Outcome.TheVariants.{Answer, Report, Cancelled}

-- the worker has won the race
abbrev pub HasWon : Claim → Type 0
HasWon c = Contains c.own (Win c.worker)

-- the report is this worker's, and shows why it found no answer
abbrev pub IsReportOf : Stack → ℤ → ℕ → ReportValue → Type 0
IsReportOf s limit w r = (r.worker ≡ w) × Shows s.trees s.frames limit r.branches r.cause

-- the answer is right
abbrev pub IsRight : Stack → AnswerValue → Type 0
IsRight s (Sat i) = IsModel s.frames i
IsRight s Unsat = HasNoModel s.frames

-- An answer is right, and comes exactly with a win. Who has not won shows why, or has read who has.
abbrev pub IsOutcome : Stack → ℤ → Claim → Outcome → Type 0
IsOutcome s limit c (Answer (Sat i)) = HasWon c × IsModel s.frames i
IsOutcome s limit c (Answer Unsat) = HasWon c × HasNoModel s.frames
IsOutcome s limit c (Report r) = (HasWon c → ⊥) × IsReportOf s limit c.worker r
IsOutcome s limit c (Cancelled w) = (HasWon c → ⊥) × (c.found ≡ w + 1)

-- no report but of want of memory
abbrev pub OutcomeByMemory : Outcome → Type 0
OutcomeByMemory (Answer a) = Unit {0}
OutcomeByMemory (Report r) = r.cause ≡ Memory
OutcomeByMemory (Cancelled w) = Unit {0}

-- without a limit and without integers, want of memory alone is reported
abbrev pub MemoryAloneIsReported : List Frame → ℤ → Outcome → Type 0
MemoryAloneIsReported frames limit o = has_no_integers frames ≡ true → is_unlimited limit ≡ true → OutcomeByMemory o

-- so for a report
abbrev pub ReportsMemory : List Frame → ℤ → ReportValue → Type 0
ReportsMemory frames limit r = has_no_integers frames ≡ true → is_unlimited limit ≡ true → r.cause ≡ Memory
