-- Flags of the values of a list, met one after another.
use Rattle.std.proofs.Common.{◌≡◌, ℕ, ◌+◌, ◌<◌, List, ◌∷◌, suc, length, get_or, drop, ap, sym, ◌∙◌, add-one, Bool, true, false, ◌&&◌}
use Rattle.std.proofs.Math.Seq.{drop-cons}

pub drop_here : {X : Type 0} (xs : List X) (i : ℕ) (x : X) → i < length xs → get_or xs i x ≡ x → drop i xs ≡ x ∷ drop (i + 1) xs
drop_here xs i x h e = drop-cons xs i x h ∙ ap (λ y. y ∷ drop (suc i) xs) e ∙ ap (λ k. x ∷ drop k xs) (sym (add-one i))

pub all_step : {X : Type 0} (F : List X → Bool) (xs : List X) (i : ℕ) (x : X) (t : Bool) → ((rest : List X) → F (x ∷ rest) ≡ (t && F rest)) → F xs ≡ F (drop i xs) → i < length xs → get_or xs i x ≡ x → t ≡ true
    → F xs ≡ F (drop (i + 1) xs)
all_step F xs i x t u e h k b = e ∙ ap F (drop_here xs i x h k) ∙ u (drop (i + 1) xs) ∙ ap (λ c. c && F (drop (i + 1) xs)) b

pub all_stop : {X : Type 0} (F : List X → Bool) (xs : List X) (i : ℕ) (x : X) (t : Bool) → ((rest : List X) → F (x ∷ rest) ≡ (t && F rest)) → F xs ≡ F (drop i xs) → i < length xs → get_or xs i x ≡ x → t ≡ false
    → F xs ≡ false
all_stop F xs i x t u e h k b = e ∙ ap F (drop_here xs i x h k) ∙ u (drop (i + 1) xs) ∙ ap (λ c. c && F (drop (i + 1) xs)) b
