-- Literals over the truth of places.
use Rattle.std.specs.Prelude.{ℕ, Bool, true, false, not, ◌&&◌, ◌||◌, nat_eq, List, [], ◌∷◌, if◌then◌else◌}
use Rattle.smt_meaning.specs.Term.{bool_eq}
use Rattle.smt_meaning.specs.Forced.{Sign}

abbrev pub sign : ℕ → Bool → Sign
sign i b = record { place = i; positive = b }

abbrev pub yes : ℕ → Sign
yes i = sign i true

abbrev pub no : ℕ → Sign
no i = sign i false

abbrev pub negated : Sign → Sign
negated s = sign s.place (not s.positive)

abbrev pub sign_true : (ℕ → Bool) → Sign → Bool
sign_true a s = bool_eq (a s.place) s.positive

abbrev pub sign_eq : Sign → Sign → Bool
sign_eq s u = nat_eq s.place u.place && bool_eq s.positive u.positive

abbrev pub is_sign_in : Sign → List Sign → Bool
is_sign_in s [] = false
is_sign_in s (u ∷ us) = sign_eq s u || is_sign_in s us

-- each once: of several the last stays
abbrev pub once : List Sign → List Sign
once [] = []
once (s ∷ ss) = if is_sign_in s ss then once ss else s ∷ once ss

-- a place stands in it with both signs
abbrev pub clashes : List Sign → Bool
clashes [] = false
clashes (s ∷ ss) = is_sign_in (negated s) ss || clashes ss
