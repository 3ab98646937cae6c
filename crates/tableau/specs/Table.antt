-- What holds of the rows of a tableau.
use Rattle.std.specs.Prelude.{◌≡◌, ◌≢◌, ℕ, ◌<◌, ◌≤◌, pos, List, [], ◌∷◌, length, slice_index_or}
use Rattle.fraction128.specs.declared.ratio.Ratio.{Ratio}
use Rattle.fraction128.specs.Ratio.{IsFraction}
use Rattle.fraction128.specs.declared.Entry.{Entry}
use Rattle.fraction128.specs.declared.TableRow.{TableRow}
use Rattle.tableau.specs.declared.rows.Row.{Row}
use Rattle.tableau.specs.Rows.{IsAscending}
use Rattle.tableau.specs.Staged.{Lacks}

abbrev pub IsNonzero : Ratio → Type 0
IsNonzero x = (0 < x.denominator) × (x.numerator ≢ pos 0)

abbrev pub AreNonzero : List Entry → Type 0
AreNonzero [] = Unit {0}
AreNonzero (e ∷ es) = IsNonzero e.coefficient × AreNonzero es

abbrev pub AreFractions : List Entry → Type 0
AreFractions [] = Unit {0}
AreFractions (e ∷ es) = IsFraction e.coefficient × AreFractions es

-- of n variables: the entries ascend, are fractions and aren't 0, no variable is basic twice, and no basic variable has an entry
pub record IsTableau (n : ℕ) (rows : List Row) : Type 0 where
  pub ascending : (k : ℕ) (d : Row) → k < length rows → IsAscending (slice_index_or rows k d).entries.items
  pub nonzero : (k : ℕ) (d : Row) → k < length rows → AreNonzero (slice_index_or rows k d).entries.items
  pub fractions : (k : ℕ) (d : Row) → k < length rows → AreFractions (slice_index_or rows k d).entries.items
  pub distinct : (j k : ℕ) (d : Row) → j < length rows → k < length rows → (slice_index_or rows j d).basic ≡ (slice_index_or rows k d).basic → j ≡ k
  pub separate : (j k : ℕ) (d : Row) → j < length rows → k < length rows → Lacks (slice_index_or rows j d).basic (slice_index_or rows k d).entries.items
  pub known : (j k : ℕ) (d : Row) → n ≤ j → k < length rows → Lacks j (slice_index_or rows k d).entries.items
  pub basics : (k : ℕ) (d : Row) → k < length rows → (slice_index_or rows k d).basic < n

abbrev pub plain : Row → TableRow
plain r = record { basic = r.basic; entries = r.entries.items }

-- a tableau: the number of its variables, and its rows
pub record Table : Type 0 where
  pub count : ℕ
  pub rows : List TableRow

abbrev pub no_row : TableRow
no_row = record { basic = 0; entries = [] }

abbrev pub row_at : List TableRow → ℕ → TableRow
row_at rows k = slice_index_or rows k no_row

-- what holds of each tableau
pub record IsTable (t : Table) : Type 0 where
  pub ascending : (k : ℕ) → k < length t.rows → IsAscending (row_at t.rows k).entries
  pub nonzero : (k : ℕ) → k < length t.rows → AreNonzero (row_at t.rows k).entries
  pub fractions : (k : ℕ) → k < length t.rows → AreFractions (row_at t.rows k).entries
  pub distinct : (j k : ℕ) → j < length t.rows → k < length t.rows → (row_at t.rows j).basic ≡ (row_at t.rows k).basic → j ≡ k
  pub separate : (j k : ℕ) → j < length t.rows → k < length t.rows → Lacks (row_at t.rows j).basic (row_at t.rows k).entries
  pub known : (j k : ℕ) → t.count ≤ j → k < length t.rows → Lacks j (row_at t.rows k).entries
  pub basics : (k : ℕ) → k < length t.rows → (row_at t.rows k).basic < t.count

-- entries that a new row may have
pub record IsOpenRow (t : Table) (es : List Entry) : Type 0 where
  pub ascending : IsAscending es
  pub nonzero : AreNonzero es
  pub known : (j : ℕ) → t.count ≤ j → Lacks j es
  pub separate : (k : ℕ) → k < length t.rows → Lacks (row_at t.rows k).basic es
