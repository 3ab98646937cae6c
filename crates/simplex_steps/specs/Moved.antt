-- The values that variables get in a step.
use Rattle.std.specs.Prelude.{◌≡◌, ℕ, ℤ, ◌<◌, Bool, List, [], ◌∷◌, length, Contains, flat_map, slice_set, if◌then◌else◌, ◌&&◌}
use Rattle.fraction128.specs.declared.ratio.Ratio.{Ratio}
use Rattle.fraction128.specs.Whole.{InRange}
use Rattle.fraction128.specs.Ratio.{IsFraction}
use Rattle.fraction128.specs.Listed.{sum_of, sum_steps, product_of, product_steps, reciprocal_of, fused}
use Rattle.fraction128.specs.Number.{whole, is_zero}
use Rattle.fraction128.specs.declared.TableRow.{TableRow}
use Rattle.fraction128.specs.declared.Column.{Column}
use Rattle.fraction128.specs.Grid.{coefficient, distance, distance_fits, fit, fused_fits, every_row}
use Rattle.tableau.specs.Table.{Table, row_at}
use Rattle.tableau.specs.Staged.{HasEntry}
use Rattle.simplex_steps.specs.declared.moves.Moved.{Moved}
use Rattle.simplex_steps.specs.State.{column_in, values}

-- the row's basic variable moves by the coefficient times the distance, if the row has the variable
abbrev pub shift : List Column → ℕ → Ratio → TableRow → List Moved
shift cs i t r = if is_zero (coefficient r.entries i) then [] else record { variable = r.basic; value = fused (values cs r.basic) (coefficient r.entries i) t } ∷ []

abbrev pub shifts : List Column → ℕ → Ratio → List TableRow → List Moved
shifts cs i t rows = flat_map (shift cs i t) rows

-- the list has the moves of those rows and no others, in any order
pub record AreShifts (cs : List Column) (i : ℕ) (t : Ratio) (rows : List TableRow) (ms : List Moved) : Type 0 where
  pub only : (m : Moved) → Contains ms m → Contains (shifts cs i t rows) m
  pub each : (m : Moved) → Contains (shifts cs i t rows) m → Contains ms m

abbrev pub shift_fits : List Column → ℕ → Ratio → TableRow → Bool
shift_fits cs i t r = fused_fits (values cs r.basic) (coefficient r.entries i) t

abbrev pub with_value : Column → Ratio → Column
with_value c x = record { sum = c.sum; lower = c.lower; upper = c.upper; value = x }

abbrev pub applied : List Moved → List Column → List Column
applied [] cs = cs
applied (m ∷ ms) cs = applied ms (slice_set cs m.variable (with_value (column_in cs m.variable) m.value))

-- the columns with the listed values, and then one more
abbrev pub landed : List Moved → List Column → ℕ → Ratio → List Column
landed ms cs i x = slice_set (applied ms cs) i (with_value (column_in (applied ms cs) i) x)

-- after the move of i to k
abbrev pub moved_to : List TableRow → List Column → ℕ → ℤ → List Column
moved_to rows cs i k = landed (shifts cs i (distance k (values cs i)) rows) cs i (whole k)

abbrev pub moved_fits : List TableRow → List Column → ℕ → ℤ → Bool
moved_fits rows cs i k = distance_fits k (values cs i) && every_row rows (shift_fits cs i (distance k (values cs i)))

-- how far c moves when the basic variable of the row at a place gets the value k
abbrev pub row_distance : List TableRow → List Column → ℕ → ℤ → ℕ → Ratio
row_distance rows cs place k c =
    product_of (distance k (values cs (row_at rows place).basic)) (reciprocal_of (coefficient (row_at rows place).entries c))

-- after the pivot of the row at a place with c, whose basic variable gets the value k
abbrev pub pivoted_to : List TableRow → List Column → ℕ → ℤ → ℕ → List Column
pivoted_to rows cs place k c =
    let b = (row_at rows place).basic in
    let t = row_distance rows cs place k c in
    let ds = landed (shifts cs c t rows) cs c (sum_of (values cs c) t) in
    slice_set ds b (with_value (column_in ds b) (whole k))

-- the numbers of the distance and of the value of the entering variable stay in the range
abbrev pub entering_fits : ℤ → Ratio → Ratio → Ratio → Bool
entering_fits k x a y =
    distance_fits k x && fit (product_steps (distance k x) (reciprocal_of a)) && fit (sum_steps y (product_of (distance k x) (reciprocal_of a)))

abbrev pub pivoted_fits : List TableRow → List Column → ℕ → ℤ → ℕ → Bool
pivoted_fits rows cs place k c =
    distance_fits k (values cs (row_at rows place).basic)
    && fit (product_steps (distance k (values cs (row_at rows place).basic)) (reciprocal_of (coefficient (row_at rows place).entries c)))
    && fit (sum_steps (values cs c) (row_distance rows cs place k c))
    && every_row rows (shift_fits cs c (row_distance rows cs place k c))

-- a pivot of the row at a place with a variable, which gives the row's basic variable the value k, can be tried
pub record CanPivot (t : Table) (cs : List Column) (place : ℕ) (k : ℤ) (c : ℕ) : Type 0 where
  pub count : length cs ≡ t.count
  pub fractions : (i : ℕ) → IsFraction (values cs i)
  pub in_range : InRange k
  pub in_rows : place < length t.rows
  pub known : c < t.count
  pub entry : HasEntry c (row_at t.rows place).entries
