-- A hash of a sum's coefficients and places. No public contract speaks of it.
use Rattle.std.specs.Prelude.{ℕ, ℤ, pos, ◌/◌, ◌%◌, ◌^◌, Bool, List, [], ◌∷◌, int_lt, unsigned_abs, if◌then◌else◌}
use Rattle.smt_meaning.specs.declared.clauses.Summand.{Summand}
use Rattle.term_store.specs.Hash.{mixed}

abbrev pub sign_word : Bool → ℕ
sign_word negative = if negative then 1 else 0

abbrev pub number_state : ℕ → ℤ → ℕ
number_state state n = mixed (mixed (mixed state (sign_word (int_lt n (pos 0)))) (unsigned_abs n % 2 ^ 64)) (unsigned_abs n / 2 ^ 64)

-- the state after one more summand
abbrev pub summand_state : ℕ → Summand → ℕ
summand_state state p = mixed (number_state state p.coefficient) p.term

abbrev pub sum_state : ℕ → List Summand → ℕ
sum_state state [] = state
sum_state state (p ∷ ps) = sum_state (summand_state state p) ps

-- the upper half of the last state
unfoldable pub sum_hash : List Summand → ℕ
sum_hash ps = sum_state 1 ps / 2 ^ 32
