-- Whole numbers in places of 32 bits, lowest first. No public contract speaks of them.
use Rattle.std.specs.Prelude.{ℕ, ◌+◌, ◌≤◌, ◌^◌, ℤ, pos, ◌+ℤ◌, ◌*ℤ◌, unsigned_abs}
use Rattle.fraction128.specs.declared.wide.Four.{Four}
use Rattle.fraction128.specs.declared.wide.Seven.{Seven}

abbrev pub base : ℤ
base = pos (2 ^ 32)

abbrev pub four_value : Four → ℤ
four_value x = x.d0 +ℤ base *ℤ (x.d1 +ℤ base *ℤ (x.d2 +ℤ base *ℤ x.d3))

abbrev pub seven_value : Seven → ℤ
seven_value x = x.d0 +ℤ base *ℤ (x.d1 +ℤ base *ℤ (x.d2 +ℤ base *ℤ (x.d3 +ℤ base *ℤ (x.d4 +ℤ base *ℤ (x.d5 +ℤ base *ℤ x.d6)))))

pub record AreFourWithin (x : Four) (n : ℕ) : Type 0 where
  pub first : unsigned_abs x.d0 ≤ n
  pub second : unsigned_abs x.d1 ≤ n
  pub third : unsigned_abs x.d2 ≤ n
  pub fourth : unsigned_abs x.d3 ≤ n

-- by a product of digits at each place
pub record HasGrown (x y : Four) : Type 0 where
  pub first : unsigned_abs y.d0 ≤ unsigned_abs x.d0 + 2 ^ 64
  pub second : unsigned_abs y.d1 ≤ unsigned_abs x.d1 + 2 ^ 64
  pub third : unsigned_abs y.d2 ≤ unsigned_abs x.d2 + 2 ^ 64
  pub fourth : unsigned_abs y.d3 ≤ unsigned_abs x.d3 + 2 ^ 64

-- each is a digit, or as small as one
abbrev pub AreSmall : Four → Type 0
AreSmall x = AreFourWithin x (2 ^ 32)

pub record AreSevenWithin (x : Seven) (n : ℕ) : Type 0 where
  pub first : unsigned_abs x.d0 ≤ n
  pub second : unsigned_abs x.d1 ≤ n
  pub third : unsigned_abs x.d2 ≤ n
  pub fourth : unsigned_abs x.d3 ≤ n
  pub fifth : unsigned_abs x.d4 ≤ n
  pub sixth : unsigned_abs x.d5 ≤ n
  pub seventh : unsigned_abs x.d6 ≤ n
