use Rattle.std.proofs.Common.{◌≡◌}
use Rattle.simplex_steps.specs.State.{grid_of, IsSound, IsSettled}
use Rattle.simplex_steps.specs.Suspects.{Covers}
use Rattle.simplex_steps.specs.Run.{IsRun, Records}
use Rattle.simplex_steps.proofs.run.search.Given as goal

abbrev pub invariant-loop-pivots : goal.invariant-loop-pivots
invariant-loop-pivots l =
    IsRun l.fn.tableau l.fn.columns l.tableau l.columns l.pivots × IsSound l.tableau l.columns × IsSettled l.tableau l.columns
    × Records l.fn.kept.keep l.pivots (grid_of l.fn.tableau l.fn.columns) (grid_of l.tableau l.columns) l.fn.kept.lines.items l.kept.lines.items
    × (l.kept.keep ≡ l.fn.kept.keep) × Covers l.suspects l.columns
