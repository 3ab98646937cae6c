-- How a row of a table is found by a hash of its arguments. No public contract speaks of it.
use Rattle.std.specs.Prelude.{ℕ, ◌/◌, ◌^◌, ◌||◌, Bool, List, [], ◌∷◌, ◌++◌, nat_lt}
use Rattle.smt_meaning.specs.declared.values.Value.{Value}
use Rattle.smt_meaning.specs.declared.values.Row.{Row}
use Rattle.term_store.specs.Hash.{value_state}

abbrev pub values_state : ℕ → List Value → ℕ
values_state state [] = state
values_state state (v ∷ vs) = values_state (value_state state v) vs

-- the upper half of the last state
unfoldable pub values_hash : List Value → ℕ
values_hash vs = values_state 1 vs / 2 ^ 32

-- the hashes of the rows' arguments, from the last row to the first
abbrev pub row_hashes : List Row → List ℕ
row_hashes [] = []
row_hashes (r ∷ rs) = row_hashes rs ++ values_hash r.arguments ∷ []

-- few rows are scanned, and so are more than an index holds
abbrev pub is_scanned : ℕ → Bool
is_scanned count = nat_lt count 8 || nat_lt 0xffff_fffe count
