-- Marks that carry the number of their round.
use Rattle.std.specs.Prelude.{◌≡◌, ℕ, ◌<◌, ◌≤◌, nat_eq, Bool, false, List, map, slice_index_or, All}

-- the marks of a round
abbrev pub marks_of : ℕ → List ℕ → List Bool
marks_of round rounds = map (λ n. nat_eq n round) rounds

-- no mark is set
abbrev pub AreOff : List Bool → Type 0
AreOff marks = (k : ℕ) → slice_index_or marks k false ≡ false

-- no mark is of a later round
abbrev pub AreUpTo : ℕ → List ℕ → Type 0
AreUpTo round rounds = All (λ n. n ≤ round) rounds

-- each mark is of an earlier round
abbrev pub AreEarlier : ℕ → List ℕ → Type 0
AreEarlier round rounds = All (λ n. n < round) rounds
