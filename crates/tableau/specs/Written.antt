-- Sums of variables, written by variables that aren't basic.
use Rattle.std.specs.Prelude.{◌≡◌, ◌≢◌, ℕ, ◌<◌, pos, Bool, true, List, [], ◌∷◌, length, slice_index_or, ◌&&◌, Option, Some, None}
use Rattle.fraction128.specs.declared.ratio.Ratio.{Ratio}
use Rattle.fraction128.specs.Listed.{fused}
use Rattle.fraction128.specs.Number.{whole}
use Rattle.fraction128.specs.Whole.{InRange}
use Rattle.fraction128.specs.declared.Entry.{Entry}
use Rattle.fraction128.specs.declared.TableRow.{TableRow}
use Rattle.fraction128.specs.Grid.{every, fused_fits, written_variable, entries_from, no_coefficients}
use Rattle.tableau.specs.declared.sum.Part.{Part}
use Rattle.tableau.specs.Rows.{entry}
use Rattle.tableau.specs.Table.{Table, IsOpenRow}

abbrev pub part_at : List Part → ℕ → Part
part_at ps k = slice_index_or ps k (record { coefficient = pos 0; variable = 0 })

-- the coefficient of j in a sum so written: its parts in order, each added to f
abbrev pub parts_written : List TableRow → (ℕ → Ratio) → List Part → ℕ → Ratio
parts_written rows f [] j = f j
parts_written rows f (p ∷ ps) j = parts_written rows (λ i. fused (f i) (whole p.coefficient) (written_variable rows p.variable i)) ps j

-- the numbers of that writing, of n variables, stay in the range
abbrev pub parts_fit : ℕ → List TableRow → (ℕ → Ratio) → List Part → Bool
parts_fit n rows f [] = true
parts_fit n rows f (p ∷ ps) =
    every n (λ i. fused_fits (f i) (whole p.coefficient) (written_variable rows p.variable i))
    && parts_fit n rows (λ i. fused (f i) (whole p.coefficient) (written_variable rows p.variable i)) ps

-- the row of a new variable for a sum of n variables
abbrev pub parts_row : ℕ → List TableRow → List Part → TableRow
parts_row n rows ps = record { basic = n; entries = entries_from 0 n (parts_written rows no_coefficients ps) }

-- a coefficient of the range other than 0, and a variable below n
pub record IsPart (n : ℕ) (p : Part) : Type 0 where
  pub known : p.variable < n
  pub in_range : InRange p.coefficient
  pub nonzero : p.coefficient ≢ pos 0

abbrev pub AreParts : ℕ → List Part → Type 0
AreParts n ps = (k : ℕ) → k < length ps → IsPart n (part_at ps k)

-- a variable, written by variables that aren't basic: its row, or itself
abbrev pub form_of : Option TableRow → ℕ → List Entry
form_of (Some r) i = r.entries
form_of None i = entry i (whole (pos 1)) ∷ []

-- the entries are those of the written sum, and may stand in a new row
pub record IsWritten (t : Table) (ps : List Part) (es : List Entry) : Type 0 where
  pub exact : es ≡ (parts_row t.count t.rows ps).entries
  pub open_row : IsOpenRow t es
