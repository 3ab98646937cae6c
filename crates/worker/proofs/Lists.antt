-- Lists.
use Rattle.std.proofs.Common.{◌≡◌, ℕ, zero, suc, ◌+◌, ◌<◌, ◌≤◌, List, [], ◌∷◌, ◌++◌, length, take, All, Contains, get_or, subst, sym, ap, ◌∙◌, arith, refl, inl, inr}
use Rattle.std.proofs.Math.Seq.{take-suc}
use Rattle.std.specs.List.{range_with_len}
use Rattle.std.proofs.lemmas.List.Elements.{All-nil, All-cons, All-append, All-contains, Contains-append_left, Contains-append_right, Contains-append_cases, Contains-push, Contains-push_cases, Contains-get_or}
use Rattle.search_port.proofs.Forcing.{after_is, here_is, none_is}

pub in_middle : {X : Type 0} (before after : List X) (x : X) → Contains (before ++ x ∷ after) x
in_middle before after x = Contains-append_right before (x ∷ after) x (Contains-append_left (x ∷ []) after x (Contains-push [] x))

pub front_in : {X : Type 0} (P : X → Type 0) (us vs : List X) → All P (us ++ vs) → All P us
front_in P us vs h k d lt = All-contains P (us ++ vs) (get_or us k d) h (Contains-append_left us vs (get_or us k d) (Contains-get_or us k d lt))

-- one element is the first, or stands among the rest
pub first_or_later : {X : Type 0} (P : Type 0) (x y : X) (xs : List X) → (x ≡ y → P) → (Contains xs y → P) → Contains (x ∷ xs) y → P
first_or_later P x y xs f g h = elim (Contains-append_cases (x ∷ []) xs y h) [
  | inl one ↦ elim (Contains-push_cases [] x y one) [ inl nothing ↦ absurd (omega (arith, nothing.1)) | inr same ↦ f same ]
  | inr rest ↦ g rest
]

-- beyond the end nothing is read
pub at_any : {X : Type 0} (xs : List X) (k : ℕ) (d e : X) → k < length xs → get_or xs k d ≡ get_or xs k e
at_any [] k d e h = absurd (omega arith)
at_any (x ∷ xs) zero d e h = refl
at_any (x ∷ xs) (suc k) d e h = at_any xs k d e (omega (arith, h))

-- what holds of the first elements and of the next
pub one_more : {X : Type 0} (P : X → Type 0) (xs : List X) (k : ℕ) (x : X) → k < length xs → get_or xs k x ≡ x → All P (take k xs) → P x → All P (take (k + 1) xs)
one_more P xs k x h is first next =
    subst (λ ys. All P ys) (sym (ap (λ n. take n xs) (add_one k) ∙ take-suc xs k x h ∙ ap (λ y. take k xs ++ y ∷ []) is)) (All-append P (take k xs) (x ∷ []) first (All-cons P x [] next (All-nil P)))
  where
    add_one : (n : ℕ) → n + 1 ≡ suc n
    add_one n = omega arith

-- ---- numbers in order

-- a number that stands in a range after others is greater than each of them
pub record IsAfter (a n : ℕ) (xs : List ℕ) : Type 0 where
  pub from : a ≤ n
  pub greater : All (λ m. m < n) xs

pub in_order : (xs ys : List ℕ) (n a k : ℕ) → xs ++ n ∷ ys ≡ range_with_len a k → IsAfter a n xs
in_order [] ys n a zero e = absurd (none_is n ys (sym e))
in_order [] ys n a (suc k) e = let same : n ≡ a = here_is n a ys (range_with_len (a + 1) k) e in record { from = omega (arith, same); greater = All-nil (λ m. m < n) }
in_order (x ∷ xs) ys n a zero e = absurd (none_is x (xs ++ n ∷ ys) (sym e))
in_order (x ∷ xs) ys n a (suc k) e =
    let first : x ≡ a = here_is x a (xs ++ n ∷ ys) (range_with_len (a + 1) k) e in
    let rest : IsAfter (a + 1) n xs = in_order xs ys n (a + 1) k (after_is x a (xs ++ n ∷ ys) (range_with_len (a + 1) k) e) in
    record { from = omega (arith, rest.from); greater = All-cons (λ m. m < n) x xs (omega (arith, first, rest.from)) rest.greater }
