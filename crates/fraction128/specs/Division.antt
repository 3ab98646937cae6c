-- Division of whole numbers with a remainder that isn't negative (SMT-LIB 2.6, theory Ints; Boute, ACM TOPLAS 1992).
use Rattle.std.specs.Prelude.{◌≡◌, ℤ, pos, ◌+ℤ◌, ◌*ℤ◌, ◌≤ℤ◌, ◌<ℤ◌, unsigned_abs}
use Rattle.std.specs.Int.{int_div_euclid, int_rem_euclid}

-- |n|
abbrev pub absolute : ℤ → ℤ
absolute n = pos (unsigned_abs n)

-- a = n * q + r, and r is at least 0 and less than |n|
pub record IsDivision (a n q r : ℤ) : Type 0 where
  pub whole : a ≡ n *ℤ q +ℤ r
  pub not_negative : pos 0 ≤ℤ r
  pub below : r <ℤ absolute n

-- that q and that r, for n other than 0
abbrev pub quotient : ℤ → ℤ → ℤ
quotient a n = int_div_euclid a n

abbrev pub remainder : ℤ → ℤ → ℤ
remainder a n = int_rem_euclid a n
