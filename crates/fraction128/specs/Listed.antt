-- The operations on whole numbers that each operation on fractions makes, in order, and the answer that they give.
use Rattle.std.specs.Prelude.{ℕ, suc, ◌*◌, ◌/◌, ℤ, pos, negsuc, ◌+ℤ◌, ◌*ℤ◌, neg_ℤ, unsigned_abs, List, [], ◌∷◌}
use Rattle.std.specs.Int.RustNames.{int_div}
use Rattle.fraction128.specs.declared.range.Op.TheVariants.{Add, Mul}
use Rattle.fraction128.specs.declared.range.Range.{Range}
use Rattle.fraction128.specs.Gcd.{gcd_of}
use Rattle.fraction128.specs.declared.ratio.Ratio.{Ratio}

abbrev pub times : ℤ → ℤ → Range
times a b = record { op = Mul; a = a; b = b }

abbrev pub plus : ℤ → ℤ → Range
plus a b = record { op = Add; a = a; b = b }

-- the sum's numerator over the denominators' least common multiple
unfoldable pub sum_over : Ratio → Ratio → ℤ
sum_over x y =
    let g = gcd_of x.denominator y.denominator in
    x.numerator *ℤ pos (y.denominator / g) +ℤ y.numerator *ℤ pos (x.denominator / g)

-- what the sum is then reduced by
unfoldable pub reduced_by : Ratio → Ratio → ℕ
reduced_by x y = gcd_of (unsigned_abs (sum_over x y)) (gcd_of x.denominator y.denominator)

-- of a/b + c/d with g = gcd(b, d): a*(d/g), c*(b/g), their sum s, and (b/g)*(d/h) with h = gcd(s, g)
unfoldable pub sum_steps : Ratio → Ratio → List Range
sum_steps x y =
    let g = gcd_of x.denominator y.denominator in
    times x.numerator (pos (y.denominator / g))
    ∷ times y.numerator (pos (x.denominator / g))
    ∷ plus (x.numerator *ℤ pos (y.denominator / g)) (y.numerator *ℤ pos (x.denominator / g))
    ∷ times (pos (x.denominator / g)) (pos (y.denominator / reduced_by x y))
    ∷ []

-- (s/h) / ((b/g)*(d/h))
unfoldable pub sum_of : Ratio → Ratio → Ratio
sum_of x y =
    record {
      numerator = int_div (sum_over x y) (pos (reduced_by x y));
      denominator = x.denominator / gcd_of x.denominator y.denominator * (y.denominator / reduced_by x y);
    }

-- the negation
abbrev pub negation_of : Ratio → Ratio
negation_of x = record { numerator = neg_ℤ x.numerator; denominator = x.denominator }

-- of (a/b) * (c/d) with u = gcd(a, d) and v = gcd(c, b): (a/u)*(c/v) and (b/v)*(d/u)
unfoldable pub product_steps : Ratio → Ratio → List Range
product_steps x y =
    let u = gcd_of (unsigned_abs x.numerator) y.denominator in
    let v = gcd_of (unsigned_abs y.numerator) x.denominator in
    times (int_div x.numerator (pos u)) (int_div y.numerator (pos v))
    ∷ times (pos (x.denominator / v)) (pos (y.denominator / u))
    ∷ []

-- the first over the second
unfoldable pub product_of : Ratio → Ratio → Ratio
product_of x y =
    let u = gcd_of (unsigned_abs x.numerator) y.denominator in
    let v = gcd_of (unsigned_abs y.numerator) x.denominator in
    record {
      numerator = int_div x.numerator (pos u) *ℤ int_div y.numerator (pos v);
      denominator = x.denominator / v * (y.denominator / u);
    }

-- 1 / x, for x other than 0
abbrev pub reciprocal_of : Ratio → Ratio
reciprocal_of x = flipped x.numerator x.denominator
  where
    flipped : ℤ → ℕ → Ratio
    flipped (pos n) d = record { numerator = pos d; denominator = n }
    flipped (negsuc n) d = record { numerator = neg_ℤ (pos d); denominator = suc n }

-- x + a * y by those steps
abbrev pub fused : Ratio → Ratio → Ratio → Ratio
fused x a y = sum_of x (product_of a y)
