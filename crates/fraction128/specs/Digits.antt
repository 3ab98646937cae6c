-- Whole numbers in digits of 32 bits. No public contract speaks of them.
use Rattle.std.specs.Prelude.{◌<◌, ◌^◌, ℤ, pos, ◌+ℤ◌, ◌*ℤ◌, ◌<ℤ◌, ◌≤ℤ◌, neg_ℤ, unsigned_abs, int_lt, int_le, ◌&&◌, ◌≡◌, Option, Some, None, IfSome, IfNone, if◌then◌else◌}
use Rattle.fraction128.specs.Whole.{InRange}
use Rattle.fraction128.specs.Wide.{base}
use Rattle.fraction128.specs.declared.wide.Seven.{Seven}

abbrev pub IsDigit : ℤ → Type 0
IsDigit d = (pos 0 ≤ℤ d) × (d <ℤ base)

-- digits but for the highest place, which is signed
pub record IsSettled (w : Seven) : Type 0 where
  pub first : IsDigit w.d0
  pub second : IsDigit w.d1
  pub third : IsDigit w.d2
  pub fourth : IsDigit w.d3
  pub fifth : IsDigit w.d4
  pub sixth : IsDigit w.d5
  pub seventh : unsigned_abs w.d6 < 2 ^ 127

-- a number, where it has 128 bits
abbrev pub held : ℤ → Option ℤ
held n = if int_le (neg_ℤ (pos (2 ^ 127))) n && int_lt n (pos (2 ^ 127)) then Some n else None

-- a number with one digit more below it
abbrev pub next : Option ℤ → ℤ → Option ℤ
next None d = None
next (Some n) d = held (d +ℤ base *ℤ n)

-- the number, where it is in the range
pub record IsRanged (n : ℤ) (r : Option ℤ) : Type 0 where
  pub some : IfSome r (λ m. (m ≡ n) × InRange m)
  pub none : IfNone r (InRange n → ⊥)
