-- The levels with a part of their assertions: what a trial checks that leaves some of them out.
use Rattle.std.specs.Prelude.{ℕ, ◌+◌, Bool, not, ◌&&◌, ◌||◌, nat_eq, nat_lt, List, [], ◌∷◌, length, if◌then◌else◌}
use Rattle.std.specs.List.{list_any}
use Rattle.smt_meaning.specs.Stack.{Frame}

-- those whose places are kept, where the first one has this place
abbrev pub kept_from : {A : Type 0} → (ℕ → Bool) → ℕ → List A → List A
kept_from keeps place [] = []
kept_from keeps place (x ∷ xs) = if keeps place then x ∷ kept_from keeps (place + 1) xs else kept_from keeps (place + 1) xs

abbrev pub keeping_from : (ℕ → Bool) → ℕ → List Frame → List Frame
keeping_from keeps place [] = []
keeping_from keeps place (f ∷ frames) = record f { asserted = kept_from keeps place f.asserted } ∷ keeping_from keeps (place + length f.asserted) frames

-- the levels with those of their assertions alone that are kept, by their places among those of all levels
abbrev pub keeping : (ℕ → Bool) → List Frame → List Frame
keeping keeps frames = keeping_from keeps 0 frames

-- ---- cores

abbrev pub is_in : List ℕ → ℕ → Bool
is_in places p = list_any (nat_eq p) places

-- what is no candidate always stays, and so does a candidate that is listed
abbrev pub core_keeps : List ℕ → List ℕ → ℕ → Bool
core_keeps candidates listed q = not (is_in candidates q) || is_in listed q

-- the trial of a candidate goes without it, and has of the others those listed before it, and all after it
abbrev pub trial_keeps : List ℕ → List ℕ → ℕ → ℕ → Bool
trial_keeps candidates listed p q = not (nat_eq q p) && (nat_lt p q || core_keeps candidates listed q)
