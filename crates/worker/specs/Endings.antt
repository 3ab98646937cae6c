-- How searches end.
use Rattle.std.specs.Prelude.{◌≡◌, true, ℕ, ℤ, List, []}
use Rattle.fraction128.specs.declared.Line.{Line}
use Rattle.smt_meaning.specs.declared.reports.RangeSeen.{RangeSeen}
use Rattle.smt_meaning.specs.Stack.{Frame, HasNoModel}
use Rattle.smt_meaning.specs.StackCommand.{Stack}
use Rattle.smt_meaning.specs.Kinds.{has_no_integers}
use Rattle.smt_meaning.specs.Model.{IsModel}
use Rattle.smt_meaning.specs.Report.{IsPastRange}
use Rattle.scope_stack.specs.Shown.{IsLawful}
use Rattle.search_port.specs.Spending.{Spending}
use Rattle.search_port.specs.declared.budget.Cause.{Cause as Ending}
use Rattle.search_port.specs.declared.budget.Cause.TheVariants.{Cancelled as EndsCancelled}
use Rattle.cdcl_core.specs.Turns.{HeardBetween}
use Rattle.worker.specs.declared.decide.Found.{Found}
use Rattle.worker.specs.declared.decide.Found.TheVariants.{Model, NoModel, Report, Cancelled}
use Rattle.worker.specs.Outcome.{IsReportOf, ReportsMemory}

-- a model, or none, or the worker's report, or what the hook says of the one that stopped it
abbrev pub IsFound : Stack → ℤ → ℕ → (Ending → Type 0) → Found → Type 0
IsFound s limit w stopped (Model i) = IsModel s.frames i
IsFound s limit w stopped NoModel = HasNoModel s.frames
IsFound s limit w stopped (Report r) = IsReportOf s limit w r
IsFound s limit w stopped (Cancelled v) = stopped (EndsCancelled v)

-- without a limit and without integers, want of memory alone is reported
abbrev pub MemoryAloneIsFound : List Frame → ℤ → Found → Type 0
MemoryAloneIsFound frames limit (Model i) = Unit {0}
MemoryAloneIsFound frames limit NoModel = Unit {0}
MemoryAloneIsFound frames limit (Report r) = ReportsMemory frames limit r
MemoryAloneIsFound frames limit (Cancelled v) = Unit {0}

-- the calls of a hook in a search that began without a unit, with clauses of so many literals to share
pub record IsHeard (share : ℕ) (Led : List Spending → Type 0) : Type 0 where
  pub begun : Spending
  pub ended : Spending
  pub units : begun.units ≡ []
  pub short : begun.short ≡ []
  pub share_is : begun.share ≡ share
  pub heard : HeardBetween Led begun ended

-- where no part of an assertion is an Int, no number leaves the range
abbrev pub NothingLeavesRange : Type 0
NothingLeavesRange =
    (s : Stack) (branches : List Line) (seen : RangeSeen) → IsLawful s → has_no_integers s.frames ≡ true → IsPastRange s.trees s.frames branches seen → ⊥
