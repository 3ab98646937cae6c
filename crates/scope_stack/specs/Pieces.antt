-- A list that is cut into levels at places in order.
use Rattle.std.specs.Prelude.{ℕ, ◌-◌, ◌≤◌, List, [], ◌∷◌, ◌++◌, take, drop, flat_map}

-- from a place on: the pieces that end before each of these places, and the rest
abbrev pub pieces : {A : Type 0} → ℕ → List A → List ℕ → List (List A)
pieces at xs [] = xs ∷ []
pieces at xs (s ∷ ss) = take (s - at) xs ∷ pieces s (drop (s - at) xs) ss

-- the places are in order, none before the first or past the last
abbrev pub AreCuts : ℕ → ℕ → List ℕ → Type 0
AreCuts at end [] = at ≤ end
AreCuts at end (s ∷ ss) = (at ≤ s) × AreCuts s end ss

abbrev pub all_of : {A : Type 0} → List (List A) → List A
all_of xss = flat_map (λ xs. xs) xss

-- the last list gains these
abbrev pub on_last : {A : Type 0} → List A → List (List A) → List (List A)
on_last ys [] = []
on_last ys (xs ∷ []) = (xs ++ ys) ∷ []
on_last ys (xs ∷ zs ∷ rest) = xs ∷ on_last ys (zs ∷ rest)
