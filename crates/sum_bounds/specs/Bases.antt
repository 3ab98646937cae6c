-- Which variables are basic, where there are variables more.
use Rattle.std.specs.Prelude.{◌≡◌, ℕ, ◌<◌, ◌≤◌, not, length}
use Rattle.fraction128.specs.Grid.{is_basic}
use Rattle.fraction128.specs.Lines.{is_leaf_sum}
use Rattle.sum_bounds.specs.Bounds.{State, sums}

-- the variables stay, basic or not as they were; one more is basic exactly where its sum isn't a term alone
pub record AddsBases (old new : State) : Type 0 where
  pub kept : (i : ℕ) → i < length old.columns → (i < length new.columns) × (sums new i ≡ sums old i)
  pub stay : (i : ℕ) → i < length old.columns → is_basic new.table.rows i ≡ is_basic old.table.rows i
  pub added : (i : ℕ) → length old.columns ≤ i → i < length new.columns → is_basic new.table.rows i ≡ not (is_leaf_sum (sums new i))
