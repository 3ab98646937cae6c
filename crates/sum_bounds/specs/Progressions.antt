-- Arithmetic progressions of rational numbers.
use Rattle.std.specs.Prelude.{◌≡◌, ℤ, pos, ◌+ℤ◌, ◌*ℤ◌, Option, Some, None}
use Rattle.fraction128.specs.declared.ratio.Ratio.{Ratio}

pub record State : Type 0 where
  pub scale : ℤ
  pub step : ℤ
  pub start : ℤ

-- x is a number of the progression: the scale times x is the start plus a multiple of the step
abbrev pub Has : State → Ratio → Type 0
Has p x = (m : ℤ) × (p.scale *ℤ x.numerator ≡ (p.step *ℤ m +ℤ p.start) *ℤ pos x.denominator)

-- z may be the value of a variable that is fixed at this number, or at none
abbrev pub MayBe : Option ℤ → ℤ → Type 0
MayBe (Some k) z = z ≡ k
MayBe None z = Unit {0}

-- ---- how a part is added

-- the scale is so many times as much, and no number is lost
pub record IsScaled (s : State) (factor : ℤ) (u : State) : Type 0 where
  pub scale : u.scale ≡ s.scale *ℤ factor
  pub keeps : (x : Ratio) → Has s x → Has u x

-- the start plus each multiple of the step, with the weight as often as the variable's value says, is such a number again
pub record Adds (s : State) (weight : ℤ) (fixed : Option ℤ) (u : State) : Type 0 where
  pub scale : u.scale ≡ s.scale
  pub sums : (z m : ℤ) → MayBe fixed z → (n : ℤ) × (u.step *ℤ n +ℤ u.start ≡ (s.step *ℤ m +ℤ s.start) +ℤ weight *ℤ z)
