use Rattle.std.proofs.Common.{◌≤◌, ◌-◌}
use Rattle.simplex_steps.specs.State.{SettledBelow}
use Rattle.simplex_steps.specs.Suspects.{Covers}
use Rattle.simplex_steps.specs.Run.{IsKept}
use Rattle.simplex_steps.proofs.turn.settle_suspects.Given as goal

abbrev pub invariant-loop-variable : goal.invariant-loop-variable
invariant-loop-variable l = IsKept l.tableau l.fn.columns l.columns × SettledBelow l.tableau l.columns l.next × (l.next ≤ l.tableau.count) × Covers l.suspects l.columns

abbrev pub decreases-loop-variable : goal.decreases-loop-variable
decreases-loop-variable l = l.tableau.count - l.next
