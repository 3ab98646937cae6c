use Rattle.simplex_steps.specs.Suspects.{Covers}
use Rattle.simplex_steps.specs.State.{SettledBelow}
use Rattle.simplex_steps.specs.Run.{IsKept}
use Rattle.simplex_steps.proofs.turn.settle_all.Given as goal

abbrev pub invariant-loop-variable : goal.invariant-loop-variable
invariant-loop-variable l = IsKept l.tableau l.fn.columns l.columns × SettledBelow l.tableau l.columns l.variable × Covers l.suspects l.columns
