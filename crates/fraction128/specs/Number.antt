-- The rational numbers that unreduced fractions with positive denominators name.
use Rattle.std.specs.Prelude.{◌≡◌, ◌*◌, ◌==◌, Bool, ℤ, pos, ◌+ℤ◌, ◌*ℤ◌, unsigned_abs, int_lt}
use Rattle.fraction128.specs.declared.ratio.Ratio.{Ratio}

-- a whole number as a fraction
abbrev pub whole : ℤ → Ratio
whole n = record { numerator = n; denominator = 1 }

-- two fractions name one number
abbrev pub SameNumber : Ratio → Ratio → Type 0
SameNumber x y = x.numerator *ℤ pos y.denominator ≡ y.numerator *ℤ pos x.denominator

-- the sum, over the product of the denominators
abbrev pub unreduced_sum : Ratio → Ratio → Ratio
unreduced_sum x y = record { numerator = x.numerator *ℤ pos y.denominator +ℤ y.numerator *ℤ pos x.denominator; denominator = x.denominator * y.denominator }

-- the product, of the numerators over the denominators
abbrev pub unreduced_product : Ratio → Ratio → Ratio
unreduced_product x y = record { numerator = x.numerator *ℤ y.numerator; denominator = x.denominator * y.denominator }

-- whether x names the lesser number
abbrev pub is_less : Ratio → Ratio → Bool
is_less x y = int_lt (x.numerator *ℤ pos y.denominator) (y.numerator *ℤ pos x.denominator)

-- the sign of the number
abbrev pub is_zero : Ratio → Bool
is_zero x = unsigned_abs x.numerator == 0

abbrev pub is_positive : Ratio → Bool
is_positive x = int_lt (pos 0) x.numerator

abbrev pub is_negative : Ratio → Bool
is_negative x = int_lt x.numerator (pos 0)
