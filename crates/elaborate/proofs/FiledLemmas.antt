-- Bindings, found by their names.
use Rattle.std.proofs.Common.{◌≡◌, ℕ, Bool, true, false, List, [], ◌∷◌, ◌++◌, take, get_or, Some, None, refl, ap, sym, ◌∙◌}
use Rattle.std.specs.Prelude.{if◌then◌else◌, bytes_eq, reverse}
use Rattle.std.specs.Option.{option_map}
use Rattle.std.proofs.lemmas.List.{map-append, take-map}
use Rattle.term_store.specs.Newest.{first_named, newest_named, IsNewest, name_hash}
use Rattle.elaborate.specs.declared.frame.Binding.{Binding}
use Rattle.elaborate.specs.Frames.{find_value}
use Rattle.elaborate.specs.Filed.{bound_hashes}

hash_of : Binding → ℕ
hash_of b = name_hash b.name

pub hashes_push : (bs : List Binding) (b : Binding) (hs : List ℕ) (h : ℕ) → hs ≡ bound_hashes bs → h ≡ name_hash b.name → hs ++ h ∷ [] ≡ bound_hashes (bs ++ b ∷ [])
hashes_push bs b hs h e f = ap (λ x. x ++ h ∷ []) e ∙ ap (λ k. bound_hashes bs ++ k ∷ []) f ∙ sym (map-append (λ (c : Binding). name_hash c.name) bs (b ∷ []))

pub hashes_take : (bs : List Binding) (hs : List ℕ) (n : ℕ) → hs ≡ bound_hashes bs → take n hs ≡ bound_hashes (take n bs)
hashes_take bs hs n e = ap (take n) e ∙ take-map (λ (c : Binding). name_hash c.name) n bs

found_first : (n : List ℕ) (bs : List Binding) → find_value n bs ≡ option_map (λ (b : Binding). b.value) (first_named (λ (b : Binding). b.name) n bs)
found_first n [] = refl
found_first n (b ∷ bs) = go (found_first n bs) (bytes_eq n b.name)
  where
    go : find_value n bs ≡ option_map (λ (b : Binding). b.value) (first_named (λ (b : Binding). b.name) n bs) → (c : Bool)
        → (if c then Some b.value else find_value n bs) ≡ option_map (λ (b : Binding). b.value) (if c then Some b else first_named (λ (b : Binding). b.name) n bs)
    go same true = refl
    go same false = same

pub bound_newest : (n : List ℕ) (bs : List Binding) (i : ℕ) (d : Binding) → IsNewest (λ (b : Binding). b.name) n bs i → Some (get_or bs i d).value ≡ find_value n (reverse bs)
bound_newest n bs i d h = sym (found_first n (reverse bs) ∙ ap (option_map (λ (b : Binding). b.value)) (h.newest d))

pub bound_never : (n : List ℕ) (bs : List Binding) → newest_named (λ (b : Binding). b.name) n bs ≡ None → None ≡ find_value n (reverse bs)
bound_never n bs h = sym (found_first n (reverse bs) ∙ ap (option_map (λ (b : Binding). b.value)) h)
