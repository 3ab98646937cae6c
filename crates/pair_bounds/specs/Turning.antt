-- Sums turned so that the first coefficient is positive, and what a bound says of the turned sum.
use Rattle.std.specs.Prelude.{Bool, false, List, [], ◌∷◌, ℤ, pos, negsuc, neg_ℤ, int_lt, int_le, if◌then◌else◌}
use Rattle.smt_meaning.specs.declared.clauses.Summand.{Summand}
use Rattle.smt_meaning.specs.Linear.{each_times}
use Rattle.pair_bounds.specs.declared.turning.Limit.{Limit}
use Rattle.pair_bounds.specs.declared.turning.Limit.TheVariants.{AtMost, AtLeast}

-- whether the first coefficient is negative
abbrev pub is_turned : List Summand → Bool
is_turned [] = false
is_turned (p ∷ ps) = int_lt p.coefficient (pos 0)

abbrev pub negation_of : List Summand → List Summand
negation_of ps = each_times (negsuc 0) ps

-- a sum, or its negation where its first coefficient is negative
abbrev pub turned : List Summand → List Summand
turned ps = if is_turned ps then negation_of ps else ps

-- what the bound of a sum says of the turned sum
abbrev pub limit_of : List Summand → ℤ → Limit
limit_of ps k = if is_turned ps then AtLeast (neg_ℤ k) else AtMost k

-- whether the value of a sum is within the limit
abbrev pub is_within : Limit → ℤ → Bool
is_within (AtMost k) s = int_le s k
is_within (AtLeast k) s = int_le k s
