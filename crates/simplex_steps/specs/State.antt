-- Rows with the columns of their variables, as a grid with nothing pending.
use Rattle.std.specs.Prelude.{◌≡◌, ◌≢◌, ℕ, ◌<◌, ◌≤◌, false, List, length, slice_index_or, Option, Some, None, ℤ, pos, []}
use Rattle.fraction128.specs.declared.ratio.Ratio.{Ratio}
use Rattle.fraction128.specs.Ratio.{IsFraction}
use Rattle.fraction128.specs.Whole.{InRange}
use Rattle.fraction128.specs.Number.{whole}
use Rattle.fraction128.specs.declared.Column.{Column}
use Rattle.fraction128.specs.declared.TableRow.{TableRow}
use Rattle.fraction128.specs.declared.Entry.{Entry}
use Rattle.fraction128.specs.declared.Member.{Member}
use Rattle.fraction128.specs.declared.Grid.{Grid}
use Rattle.fraction128.specs.Grid.{missed, MeetsRows, any_crossed, is_basic}
use Rattle.tableau.specs.Table.{Table, row_at}

abbrev pub grid_of : Table → List Column → Grid
grid_of t cs = record { columns = cs; rows = t.rows; pending = None }

abbrev pub no_column : Column
no_column = record { sum = []; lower = None; upper = None; value = whole (pos 0) }

abbrev pub column_in : List Column → ℕ → Column
column_in cs i = slice_index_or cs i no_column

abbrev pub values : List Column → ℕ → Ratio
values cs i = (column_in cs i).value

-- an entry with the column of its variable
abbrev pub member_in : List Column → Entry → Member
member_in cs e = record { variable = e.variable; coefficient = e.coefficient; column = column_in cs e.variable }

-- the values are fractions that meet the rows
pub record IsSolution (t : Table) (cs : List Column) : Type 0 where
  pub count : length cs ≡ t.count
  pub fractions : (i : ℕ) → IsFraction (values cs i)
  pub meets : MeetsRows t.rows (values cs)

abbrev pub IsRanged : Option ℤ → Type 0
IsRanged (Some k) = InRange k
IsRanged None = Unit {0}

-- the bounds lie in the range
abbrev pub AreRanged : List Column → Type 0
AreRanged cs = (i : ℕ) → IsRanged (column_in cs i).lower × IsRanged (column_in cs i).upper

-- two columns have the same sum and bounds
pub record SameBounds (c d : Column) : Type 0 where
  pub sum : c.sum ≡ d.sum
  pub lower : c.lower ≡ d.lower
  pub upper : c.upper ≡ d.upper

-- all columns keep their sums and bounds
pub record KeepsBounds (cs ds : List Column) : Type 0 where
  pub count : length ds ≡ length cs
  pub each : (i : ℕ) → SameBounds (column_in ds i) (column_in cs i)

-- the values meet the rows, the bounds lie in the range, and none cross
pub record IsSound (t : Table) (cs : List Column) : Type 0 where
  pub solution : IsSolution t cs
  pub ranged : AreRanged cs
  pub uncrossed : any_crossed cs ≡ false

-- the variables below n that aren't basic are within their bounds
abbrev pub SettledBelow : Table → List Column → ℕ → Type 0
SettledBelow t cs n = (j : ℕ) → j < n → is_basic t.rows j ≡ false → missed (column_in cs j) ≡ None

-- no variable that isn't basic is outside its bounds
abbrev pub IsSettled : Table → List Column → Type 0
IsSettled t cs = SettledBelow t cs (length cs)

-- of the first n rows, that of the least basic variable outside its bounds
abbrev pub IsLeastBroken : List TableRow → List Column → ℕ → Option ℕ → Type 0
IsLeastBroken rows cs n None = (k : ℕ) → k < n → missed (column_in cs (row_at rows k).basic) ≡ None
IsLeastBroken rows cs n (Some j) =
    (j < length rows) × (missed (column_in cs (row_at rows j).basic) ≢ None)
    × ((k : ℕ) → k < n → missed (column_in cs (row_at rows k).basic) ≢ None → (row_at rows j).basic ≤ (row_at rows k).basic)
