use Rattle.std.proofs.Common.{ℕ, ◌<◌}
use Rattle.sum_bounds.specs.Bounds.{IsWhole}
use Rattle.sum_bounds.proofs.fractions.first_fraction.Given as goal

abbrev pub invariant-loop-variable : goal.invariant-loop-variable
invariant-loop-variable l = (i : ℕ) → i < l.variable → IsWhole l.simplex.columns i
