-- Variables that aren't basic, and what their values rest at.
use Rattle.std.specs.Prelude.{◌≡◌, ℕ, ◌<◌, ◌⊎◌, Bool, false, List, length, ℤ, pos}
use Rattle.fraction128.specs.declared.ratio.Ratio.{Ratio}
use Rattle.fraction128.specs.Number.{whole}
use Rattle.fraction128.specs.declared.Side.{Side}
use Rattle.fraction128.specs.Grid.{is_basic}
use Rattle.simplex_steps.specs.State.{values}
use Rattle.sum_bounds.specs.declared.writing.SumVariable.{SumVariable}
use Rattle.sum_bounds.specs.Bounds.{State, told_side, told_number}
use Rattle.bound_log.specs.declared.said.Said.{Said}
use Rattle.bound_log.specs.declared.said.Said.TheVariants.{Bound}
use Rattle.bound_log.specs.Told.{said_at}

-- an atom or its complement says this bound of the variable
pub record IsSaidOn (said : List Said) (i : ℕ) (side : Side) (k : ℤ) : Type 0 where
  pub atom : ℕ
  pub positive : Bool
  pub of : SumVariable
  pub threshold : ℤ
  pub known : atom < length said
  pub is : said_at said atom ≡ Bound of threshold
  pub variable : of.variable ≡ i
  pub on : side ≡ told_side positive of.turned
  pub number : k ≡ told_number positive of.turned threshold

-- the value of a variable is 0, or the number of such a bound
abbrev pub RestsAt : List Said → ℕ → Ratio → Type 0
RestsAt said i x = (x ≡ whole (pos 0)) ⊎ ((side : Side) × (k : ℤ) × (x ≡ whole k) × IsSaidOn said i side k)

-- so is the value of each variable that isn't basic
abbrev pub AreResting : State → List Said → Type 0
AreResting b said = (i : ℕ) → i < length b.columns → is_basic b.table.rows i ≡ false → RestsAt said i (values b.columns i)

-- the variable was there and wasn't basic, and keeps its value
pub record IsStill (old new : State) (i : ℕ) : Type 0 where
  pub known : i < length old.columns
  pub free : is_basic old.table.rows i ≡ false
  pub value : values new.columns i ≡ values old.columns i

-- each variable that isn't basic is still as it was, or has the value 0
abbrev pub AreStill : State → State → Type 0
AreStill old new = (i : ℕ) → i < length new.columns → is_basic new.table.rows i ≡ false → (values new.columns i ≡ whole (pos 0)) ⊎ IsStill old new i
