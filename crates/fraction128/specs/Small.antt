-- Fractions whose sums and products stay within 64 bits.
use Rattle.std.specs.Prelude.{◌<◌, ◌^◌, unsigned_abs}
use Rattle.fraction128.specs.declared.ratio.Ratio.{Ratio}
use Rattle.fraction128.specs.Ratio.{IsFraction}

-- both parts have 31 bits
pub record IsSmall (x : Ratio) : Type 0 where
  pub numerator_small : unsigned_abs x.numerator < 2 ^ 31
  pub denominator_small : x.denominator < 2 ^ 31

-- the same, in lowest terms
pub record IsSmallFraction (x : Ratio) : Type 0 where
  pub fraction : IsFraction x
  pub small : IsSmall x
