-- Bounds that no solution of the rows meets.
use Rattle.std.specs.Prelude.{◌≡◌, ℕ, ◌<◌, ◌⊎◌, Bool, true, false, not, List, [], ◌∷◌, length, slice_index_or, map, ℤ, pos, Option, Some, None, All, if◌then◌else◌}
use Rattle.fraction128.specs.declared.ratio.Ratio.{Ratio}
use Rattle.fraction128.specs.Whole.{InRange}
use Rattle.fraction128.specs.Number.{whole, is_less, is_positive}
use Rattle.fraction128.specs.declared.Entry.{Entry}
use Rattle.fraction128.specs.declared.TableRow.{TableRow}
use Rattle.fraction128.specs.declared.Column.{Column}
use Rattle.fraction128.specs.declared.Bound.{Bound}
use Rattle.fraction128.specs.declared.Side.{Side}
use Rattle.fraction128.specs.declared.Side.TheVariants.{Lower, Upper}
use Rattle.fraction128.specs.Grid.{missed, helps, is_crossed, MeetsRows}
use Rattle.tableau.specs.Table.{row_at}
use Rattle.simplex_steps.specs.State.{column_in}

-- the bound stands
abbrev pub Stands : List Column → Bound → Type 0
Stands cs b = (b.variable < length cs) × side_stands b.side
  where
    side_stands : Side → Type 0
    side_stands Lower = (column_in cs b.variable).lower ≡ Some b.number
    side_stands Upper = (column_in cs b.variable).upper ≡ Some b.number

-- a value meets the bound
abbrev pub MeetsBound : (ℕ → Ratio) → Bound → Type 0
MeetsBound v b = side_met b.side
  where
    side_met : Side → Type 0
    side_met Lower = is_less (v b.variable) (whole b.number) ≡ false
    side_met Upper = is_less (whole b.number) (v b.variable) ≡ false

-- no solution of the rows meets these bounds
abbrev pub Apart : List TableRow → List Bound → Type 0
Apart rows bounds = (v : ℕ → Ratio) → ((i : ℕ) → 0 < (v i).denominator) → MeetsRows rows v → All (MeetsBound v) bounds → ⊥

-- the variables of the entries are below n
abbrev pub KnownEntries : ℕ → List Entry → Type 0
KnownEntries n es = (k : ℕ) (d : Entry) → k < length es → (slice_index_or es k d).variable < n

-- no entry can help
abbrev pub NoneHelps : List Column → Bool → List Entry → Type 0
NoneHelps cs rises es = (k : ℕ) (d : Entry) → k < length es → helps rises (slice_index_or es k d).coefficient (column_in cs (slice_index_or es k d).variable) ≡ false

abbrev pub number_or_none : Option ℤ → ℤ
number_or_none (Some k) = k
number_or_none None = pos 0

abbrev pub side_bound : List Column → ℕ → Side → Bound
side_bound cs i Lower = record { variable = i; side = Lower; number = number_or_none (column_in cs i).lower }
side_bound cs i Upper = record { variable = i; side = Upper; number = number_or_none (column_in cs i).upper }

abbrev pub same_sign : Bool → Bool → Bool
same_sign true b = b
same_sign false b = not b

-- the side on which an entry's variable stops it from helping
abbrev pub stop_side : Bool → Ratio → Side
stop_side rises a = if same_sign (is_positive a) rises then Upper else Lower

abbrev pub stop : List Column → Bool → Entry → Bound
stop cs rises e = side_bound cs e.variable (stop_side rises e.coefficient)

-- the bound that the basic variable misses, and those that stop the entries
abbrev pub stops : List Column → Bool → ℕ → List Entry → List Bound
stops cs rises b es = side_bound cs b (if rises then Lower else Upper) ∷ map (stop cs rises) es

-- k is the bound that the value is outside of; the value is below it, or above
pub record IsTarget (c : Column) (k : ℤ) (rises : Bool) : Type 0 where
  pub outside : missed c ≡ Some k
  pub in_range : InRange k
  pub side : is_less c.value (whole k) ≡ rises
  pub below : rises ≡ true → c.lower ≡ Some k
  pub above : rises ≡ false → (c.upper ≡ Some k) × (is_less (whole k) c.value ≡ true)

-- the bounds are those of one row, and no solution of the rows meets them
pub record IsRowConflict (rows : List TableRow) (cs : List Column) (bounds : List Bound) : Type 0 where
  pub place : ℕ
  pub in_rows : place < length rows
  pub rises : Bool
  pub exact : bounds ≡ stops cs rises (row_at rows place).basic (row_at rows place).entries
  pub stand : All (Stands cs) bounds
  pub apart : Apart rows bounds

-- the bounds are the two of the least variable whose bounds cross
pub record IsCrossing (cs : List Column) (bounds : List Bound) : Type 0 where
  pub variable : ℕ
  pub known : variable < length cs
  pub crossed : is_crossed (column_in cs variable) ≡ true
  pub least : (j : ℕ) → j < variable → is_crossed (column_in cs j) ≡ false
  pub exact : bounds ≡ side_bound cs variable Lower ∷ side_bound cs variable Upper ∷ []
  pub stand : All (Stands cs) bounds
  pub apart : (v : ℕ → Ratio) → ((i : ℕ) → 0 < (v i).denominator) → All (MeetsBound v) bounds → ⊥

abbrev pub IsConflict : List TableRow → List Column → List Bound → Type 0
IsConflict rows cs bounds = IsRowConflict rows cs bounds ⊎ IsCrossing cs bounds
