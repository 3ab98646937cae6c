-- A hash of a sum. No public contract speaks of it.
use Rattle.std.specs.Prelude.{ℕ, ◌/◌, ◌%◌, ◌^◌, List, [], ◌∷◌, unsigned_abs}
use Rattle.fraction128.specs.declared.Summand.{Summand}
use Rattle.term_store.specs.Hash.{mixed}

-- the state after one more summand: its term, and the lower half of its coefficient's absolute value
abbrev pub summand_state : ℕ → Summand → ℕ
summand_state state p = mixed (mixed state p.term) (unsigned_abs p.coefficient % 2 ^ 64)

abbrev pub sum_state : ℕ → List Summand → ℕ
sum_state state [] = state
sum_state state (p ∷ ps) = sum_state (summand_state state p) ps

-- the upper half of the last state
unfoldable pub sum_hash : List Summand → ℕ
sum_hash ps = sum_state 1 ps / 2 ^ 32
