use Rattle.std.proofs.Common.{ℕ, ◌<◌}
use Rattle.fraction128.specs.Ratio.{IsFraction}
use Rattle.tableau.specs.Rows.{coefficient_at}
use Rattle.tableau.proofs.rows.check_fractions.Given as goal

abbrev pub invariant-loop-entry : goal.invariant-loop-entry
invariant-loop-entry l = (k : ℕ) → k < l.entry-index → IsFraction (coefficient_at l.entries k)
