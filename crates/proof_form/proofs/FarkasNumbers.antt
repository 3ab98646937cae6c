-- Multipliers in lowest terms.
use Rattle.std.proofs.Common.{◌≡◌, ℕ, ◌/◌, ◌<◌, ◌^◌, pos, sym, refl}
use Rattle.fraction128.specs.declared.ratio.Ratio.{Ratio}
use Rattle.fraction128.specs.Gcd.{gcd_of}
use Rattle.fraction128.specs.Ratio.{IsFraction, Equals}
use Rattle.fraction128.proofs.LowestTerms.{reduced-is}
use Rattle.fraction128.proofs.RationalRing.{same_trans, lowest-unique}
use Rattle.proof_terms.specs.Range.{lowest}

pub lowest_is : (a b : ℕ) → a < 2 ^ 127 → 0 < b → b < 2 ^ 127 → Equals (lowest a b) (pos a) b × IsFraction (lowest a b)
lowest_is a b a_in above b_in = reduced-is (pos a) (pos (a / gcd_of a b)) b (gcd_of a b) a_in above b_in refl refl

pub lowest_found : (a b : ℕ) (r : Ratio) → a < 2 ^ 127 → 0 < b → b < 2 ^ 127 → IsFraction r → Equals r (pos a) b → r ≡ lowest a b
lowest_found a b r a_in above b_in fr e =
    let found : Equals (lowest a b) (pos a) b × IsFraction (lowest a b) = lowest_is a b a_in above b_in in
    lowest-unique r (lowest a b) fr found.1 (same_trans r (record { numerator = pos a; denominator = b }) (lowest a b) above e (sym found.0))
