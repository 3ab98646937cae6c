-- Variables more.
use Rattle.std.specs.Prelude.{◌≡◌, ◌≢◌, ℕ, ◌<◌, ◌≤◌, Bool, ◌++◌, List, length, pos}
use Rattle.fraction128.specs.Whole.{InRange}
use Rattle.fraction128.specs.declared.Column.{Column}
use Rattle.fraction128.specs.declared.TableRow.{TableRow}
use Rattle.fraction128.specs.declared.Summand.{Summand}
use Rattle.fraction128.specs.Grid.{is_basic}
use Rattle.fraction128.specs.Lines.{HasBasis, first_basis}
use Rattle.fraction128.specs.Chain.{TakesIn}
use Rattle.smt_meaning.specs.declared.clauses.Summand as Places
use Rattle.sum_bounds.specs.Bounds.{State}
use Rattle.bound_log.specs.Told as Told
use Rattle.bound_log.specs.Told.{column_sums}
use Rattle.bound_log.specs.Pending.{plain_grid}

-- variables and rows are only added, and the bounds told stay
pub record IsGrown (old new : State) : Type 0 where
  pub more : List Column
  pub columns : new.columns ≡ old.columns ++ more
  pub more_rows : List TableRow
  pub rows : new.table.rows ≡ old.table.rows ++ more_rows
  pub told : new.told ≡ old.told

-- the coefficient is a number of the range other than 0
pub record IsProper (p : Places.Summand) : Type 0 where
  pub in_range : InRange p.coefficient
  pub nonzero : p.coefficient ≢ pos 0

-- ---- the variables of a grid

-- the variables keep their sums, basic or not as they were, and some come after them; one more is basic exactly where its sum isn't a term alone; values, rows and bounds of those before stay
pub record GrowsVariables (old new : Told.State) : Type 0 where
  pub more : List (List Summand)
  pub sums : column_sums new ≡ column_sums old ++ more
  pub stay : (i : ℕ) → i < length old.bounds.columns → is_basic new.bounds.table.rows i ≡ is_basic old.bounds.table.rows i
  pub added : (i : ℕ) → length old.bounds.columns ≤ i → i < length new.bounds.columns → is_basic new.bounds.table.rows i ≡ first_basis (column_sums new) i
  pub taken : TakesIn (plain_grid old) (plain_grid new)

-- the variables keep their sums, and the same of them are basic
pub record KeepsVariables (old new : Told.State) : Type 0 where
  pub sums : column_sums new ≡ column_sums old
  pub basis : (is : ℕ → Bool) → HasBasis is (plain_grid old) → HasBasis is (plain_grid new)
