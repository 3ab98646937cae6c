-- The ends of lists, marked from the last token on.
use Rattle.std.specs.Prelude.{◌≡◌, ℕ, ◌+◌, ◌<◌, ◌≤◌, List, [], ◌∷◌, drop, length, reverse, slice_index}
use Rattle.smt_meaning.specs.declared.tokens.Token.{Token}
use Rattle.smt_meaning.specs.declared.tokens.Token.TheVariants.{Enter}
use Rattle.smt_meaning.specs.Sexp.{Sexps, open_lists_of}
use Rattle.look_ahead.specs.Ahead.{ahead, IsList}

-- what is left behind these places
abbrev pub behind : List Token → List ℕ → List Sexps
behind ts [] = []
behind ts (c ∷ cs) = ahead ts (c + 1) ∷ behind ts cs

abbrev pub AreFrom : List Token → ℕ → List ℕ → Type 0
AreFrom ts i [] = Unit {0}
AreFrom ts i (c ∷ cs) = (i ≤ c) × (c < length ts) × AreFrom ts i cs

-- the lists that begin at a place or later have their ends, and the last of these places closes the innermost list that is open there
pub record AreMarked (ts : List Token) (i : ℕ) (ends closing : List ℕ) : Type 0 where
  pub count : length ends ≡ length ts
  pub open_lists : open_lists_of (drop i ts) ≡ ahead ts i ∷ behind ts (reverse closing)
  pub from : AreFrom ts i (reverse closing)
  pub lists : (j : ℕ) (rest : List Token) → i ≤ j → drop j ts ≡ Enter ∷ rest → IsList ts j (slice_index ends j)
