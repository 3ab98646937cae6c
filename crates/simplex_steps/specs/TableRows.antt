-- Tableaus as rows of grids.
use Rattle.std.specs.Prelude.{◌≡◌, List, length}
use Rattle.fraction128.specs.declared.Column.{Column}
use Rattle.fraction128.specs.Lines.{AreRows}
use Rattle.tableau.specs.Table.{Table, IsTable}
use Rattle.simplex_steps.specs.State.{grid_of}

-- the rows of a tableau are rows of its grid: each over variables that aren't basic, in ascending order and with fractions other than 0
abbrev pub TablesHaveRows : Type 0
TablesHaveRows = (t : Table) (cs : List Column) → IsTable t → length cs ≡ t.count → AreRows (grid_of t cs)
