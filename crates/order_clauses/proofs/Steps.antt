-- A step of a loop over a list.
use Rattle.std.proofs.Common.{◌≡◌, ℕ, ◌<◌, ◌+◌, List, [], ◌∷◌, ◌++◌, map, length, take, get_or, All, subst, sym, ap, ◌∙◌, refl}
use Rattle.std.specs.Prelude.{flat_map}
use Rattle.std.proofs.lemmas.List.{take_more, map-append, append_assoc, append-nil}
use Rattle.std.proofs.lemmas.List.Elements.{All-append}

module _ {X B : Type 0} (xs : List X) (k : ℕ) (d : X) (l : k < length xs) where
  pub map_step : (f : X → B) (ns ns' : List B) (n : B) → ns ≡ map f (take k xs) → ns' ≡ ns ++ n ∷ [] → n ≡ f (get_or xs k d) → ns' ≡ map f (take (k + 1) xs)
  map_step f ns ns' n old new e =
      new ∙ ap (λ ms. ms ++ n ∷ []) old ∙ ap (λ m. map f (take k xs) ++ m ∷ []) e ∙ sym (map-append f (take k xs) (get_or xs k d ∷ [])) ∙ sym (ap (map f) (take_more xs k d l))

  flat_append : (f : X → List B) (ys zs : List X) → flat_map f (ys ++ zs) ≡ flat_map f ys ++ flat_map f zs
  flat_append f [] zs = refl
  flat_append f (y ∷ ys) zs = ap (λ bs. f y ++ bs) (flat_append f ys zs) ∙ sym (append_assoc (f y) (flat_map f ys) (flat_map f zs))

  flat_more : (f : X → List B) → flat_map f (take (k + 1) xs) ≡ flat_map f (take k xs) ++ f (get_or xs k d)
  flat_more f =
      ap (flat_map f) (take_more xs k d l) ∙ flat_append f (take k xs) (get_or xs k d ∷ []) ∙ ap (λ bs. flat_map f (take k xs) ++ bs) (append-nil (f (get_or xs k d)))

  pub flat_step : (f : X → List B) (base cs cs' : List B) → cs ≡ base ++ flat_map f (take k xs) → cs' ≡ cs ++ f (get_or xs k d) → cs' ≡ base ++ flat_map f (take (k + 1) xs)
  flat_step f base cs cs' old new =
      new ∙ ap (λ bs. bs ++ f (get_or xs k d)) old ∙ append_assoc base (flat_map f (take k xs)) (f (get_or xs k d)) ∙ sym (ap (λ bs. base ++ bs) (flat_more f))

  pub All-flat_step : (P : B → Type 0) (f : X → List B) → All P (flat_map f (take k xs)) → All P (f (get_or xs k d)) → All P (flat_map f (take (k + 1) xs))
  All-flat_step P f old new = subst (All P) (sym (flat_more f)) (All-append P (flat_map f (take k xs)) (f (get_or xs k d)) old new)
