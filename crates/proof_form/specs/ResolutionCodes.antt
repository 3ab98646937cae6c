-- Codes of a literal and of its negation.
use Rattle.std.specs.Prelude.{◌≡◌, ◌⊎◌, ℕ, ◌+◌, ◌*◌}

-- both have one atom
abbrev pub IsOpposite : ℕ → ℕ → Type 0
IsOpposite code negation = (number : ℕ) × (((code ≡ number * 2) × (negation ≡ number * 2 + 1)) ⊎ ((code ≡ number * 2 + 1) × (negation ≡ number * 2)))
