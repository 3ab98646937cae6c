-- Where the table of a symbol stands.
use Rattle.std.specs.Prelude.{◌≡◌, ℕ, suc, Bool, true, false, List, [], ◌∷◌, Option, Some, None, ◌<◌, AllPairs, nat_eq, slice_get}
use Rattle.smt_meaning.specs.declared.values.Table.{Table}
use Rattle.model_eval.specs.Rows.{row_hashes}

-- here, or one place further than in the rest
abbrev pub here_or_later : Bool → Option ℕ → Option ℕ
here_or_later true later = Some 0
here_or_later false None = None
here_or_later false (Some i) = Some (suc i)

-- the place of the first table of the symbol
abbrev pub first_place : List Table → ℕ → Option ℕ
first_place [] symbol = None
first_place (t ∷ ts) symbol = here_or_later (nat_eq t.symbol symbol) (first_place ts symbol)

-- the place that a symbol has already, or this one where the table is of the symbol
abbrev pub place_with : Option ℕ → Bool → ℕ → Option ℕ
place_with (Some i) same place = Some i
place_with None true place = Some place
place_with None false place = None

-- each table's symbol is below those of the later tables
abbrev pub Ascend : List Table → Type 0
Ascend tables = AllPairs (λ (t u : Table). t.symbol < u.symbol) tables

-- each symbol has the place of its first table
abbrev pub ArePlaces : List Table → (ℕ → Option ℕ) → Type 0
ArePlaces tables places = (symbol : ℕ) → places symbol ≡ first_place tables symbol

-- what is kept for a place is the hashes of the rows of the table there
abbrev pub AreIndexes : List Table → (ℕ → Option (List ℕ)) → Type 0
AreIndexes tables indexes = (place : ℕ) (t : Table) (hashes : List ℕ) → slice_get tables place ≡ Some t → indexes place ≡ Some hashes → hashes ≡ row_hashes t.rows
