-- What a sum or a product of fractions answers.
use Rattle.std.specs.Prelude.{◌≡◌, List, None, Some, Result, IfOk, IfErr}
use Rattle.fraction128.specs.declared.ratio.Ratio.{Ratio}
use Rattle.fraction128.specs.declared.range.Range.{Range}
use Rattle.fraction128.specs.Whole.{first_outside}
use Rattle.fraction128.specs.Ratio.{IsFraction}

-- the fraction that is meant, in lowest terms, where no step leaves the range
abbrev pub IsFound : (Ratio → Type 0) → List Range → Ratio → Type 0
IsFound IsMeant steps r = IsMeant r × IsFraction r × (first_outside steps ≡ None)

-- that fraction, or the first step that leaves the range
pub record IsAnswer (IsMeant : Ratio → Type 0) (steps : List Range) (result : Result Ratio Range) : Type 0 where
  pub ok : IfOk result (IsFound IsMeant steps)
  pub range : IfErr result (λ e. first_outside steps ≡ Some e)
