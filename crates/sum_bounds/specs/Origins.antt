-- Where the bounds of variables come from.
use Rattle.std.specs.Prelude.{◌≡◌, ℕ, ◌<◌, length, ℤ, Some}
use Rattle.fraction128.specs.declared.Side.{Side}
use Rattle.tableau.specs.Table.{IsTable}
use Rattle.simplex_steps.specs.State.{column_in}
use Rattle.sum_bounds.specs.Bounds.{State, bound_on, IsToldOn}

-- the rows are those of a tableau, and each bound of a variable was told
pub record IsOfTold (s : State) : Type 0 where
  pub table : IsTable s.table
  pub told : (i : ℕ) (side : Side) (k : ℤ) → i < length s.columns → bound_on (column_in s.columns i) side ≡ Some k → IsToldOn s.told i side k
