-- Numbers each once.
use Rattle.std.proofs.Common.{◌≡◌, ◌≢◌, ℕ, zero, suc, ◌<◌, ◌≤◌, Bool, true, false, nat_eq, ◌||◌, List, [], ◌∷◌, ◌++◌, length, get_or, take, All, Contains, refl, sym, ap, subst, ◌∙◌, inl, inr, arith, eq-eqb}
use Rattle.std.specs.Prelude.{◌⊎◌}
use Rattle.std.proofs.lemmas.Bool.{cases_lt, cond-false, cond-true, eqb-true, ne_eqb}
use Rattle.std.proofs.lemmas.List.{length-append, take_all, length_push, get_or_push, get_or_append_left}
use Rattle.std.proofs.lemmas.List.Elements.{All-push, Contains-append_right}
use Rattle.equality_clauses.specs.Once.{is_in, taken, taken_all, once, IsPlaced}

-- ---- membership

pub in_at : (ns : List ℕ) (k n : ℕ) → k < length ns → get_or ns k 0 ≡ n → is_in n ns ≡ true
in_at [] k n h e = absurd (omega arith)
in_at (m ∷ ms) zero n h e = ap (λ b. b || is_in n ms) (eq-eqb n m (sym e))
in_at (m ∷ ms) (suc k) n h e = either (nat_eq n m) (is_in n ms) (in_at ms k n (omega arith) e)
  where
    either : (a b : Bool) → b ≡ true → (a || b) ≡ true
    either true b h = refl
    either false b h = h

pub out_of : (ns : List ℕ) (n : ℕ) → ((k : ℕ) → k < length ns → get_or ns k 0 ≢ n) → is_in n ns ≡ false
out_of [] n h = refl
out_of (m ∷ ms) n h =
    ap (λ b. b || is_in n ms) (ne_eqb n m (λ e. h 0 (omega arith) (sym e))) ∙ out_of ms n (λ k l. h (suc k) (omega arith))

pub in_contains : (ns : List ℕ) (n : ℕ) → is_in n ns ≡ true → Contains ns n
in_contains [] n h = absurd cc
in_contains (m ∷ ms) n h = by (nat_eq n m) refl h (in_contains ms n)
  where
    by : (b : Bool) → nat_eq n m ≡ b → (b || is_in n ms) ≡ true → (is_in n ms ≡ true → Contains ms n) → Contains (m ∷ ms) n
    by true e h next = let same : n ≡ m = eqb-true n m e in subst (Contains (m ∷ ms)) (sym same) (0, omega arith, refl)
    by false e h next = Contains-append_right (m ∷ []) ms n (next h)

-- ---- places

pub placed_none : (places : List ℕ) → IsPlaced places []
placed_none places = record { within = λ k h. absurd (omega arith); at = λ k h. absurd (omega arith) }

placed_longer : (places more kept : List ℕ) → IsPlaced places kept → IsPlaced (places ++ more) kept
placed_longer places more kept p = record {
  within = λ k h. omega (arith, p.within k h, length-append places more);
  at = λ k h. get_or_append_left places more 0 (get_or kept k 0) (p.within k h) ∙ p.at k h;
}

pub placed_resized : (places places' more kept : List ℕ) (n : ℕ) → IsPlaced places kept → length places ≤ n → places' ≡ take n places ++ more → IsPlaced places' kept
placed_resized places places' more kept n p short e = subst (λ ps. IsPlaced ps kept) (sym (e ∙ ap (λ ps. ps ++ more) (take_all n places short))) (placed_longer places more kept p)

-- a number that isn't where its place says isn't kept
pub not_there : (places kept : List ℕ) (n : ℕ) → IsPlaced places kept → (n < length places → get_or places n 0 < length kept → get_or kept (get_or places n 0) 0 ≢ n) → is_in n kept ≡ false
not_there places kept n p other = out_of kept n (λ k h e. by k h e)
  where
    by : (k : ℕ) → k < length kept → get_or kept k 0 ≡ n → ⊥
    by k h e =
        let place : get_or places n 0 ≡ k = ap (λ m. get_or places m 0) (sym e) ∙ p.at k h in
        let within : get_or kept k 0 < length places = p.within k h in
        other (subst (λ m. m < length places) e within) (omega (arith, place)) (ap (λ m. get_or kept m 0) place ∙ e)

pub placed_push : (places places' kept kept' : List ℕ) (n : ℕ) → IsPlaced places kept → is_in n kept ≡ false → n < length places → length places' ≡ length places
    → get_or places' n 0 ≡ length kept → ((m : ℕ) → m ≢ n → get_or places' m 0 ≡ get_or places m 0) → kept' ≡ kept ++ n ∷ [] → IsPlaced places' kept'
placed_push places places' kept kept' n p new short size here others e = subst (IsPlaced places') (sym e) (record { within = λ k h. within k h (cases_lt k (length kept)); at = λ k h. at k h (cases_lt k (length kept)) })
  where
    before : (k : ℕ) → k < length kept → get_or (kept ++ n ∷ []) k 0 ≡ get_or kept k 0
    before k h = get_or_append_left kept (n ∷ []) 0 k h

    last : (k : ℕ) → k < length (kept ++ n ∷ []) → length kept ≤ k → get_or (kept ++ n ∷ []) k 0 ≡ n
    last k h above = get_or_push kept n 0 k (omega (arith, length_push kept n))

    within : (k : ℕ) → k < length (kept ++ n ∷ []) → (k < length kept) ⊎ (length kept ≤ k) → get_or (kept ++ n ∷ []) k 0 < length places'
    within k h (inl less) = let old : get_or kept k 0 < length places = p.within k less in omega (arith, before k less, size)
    within k h (inr above) = omega (arith, last k h above, size)

    at : (k : ℕ) → k < length (kept ++ n ∷ []) → (k < length kept) ⊎ (length kept ≤ k) → get_or places' (get_or (kept ++ n ∷ []) k 0) 0 ≡ k
    at k h (inl less) =
        let other : get_or kept k 0 ≢ n = λ same. (let x : true ≡ false = sym (in_at kept k n less same) ∙ new in cc) in
        ap (λ m. get_or places' m 0) (before k less) ∙ others (get_or kept k 0) other ∙ p.at k less
    at k h (inr above) = ap (λ m. get_or places' m 0) (last k h above) ∙ here ∙ omega (arith, length_push kept n)

-- ---- what is kept

pub taken_old : (kept : List ℕ) (n : ℕ) → is_in n kept ≡ true → taken kept n ≡ kept
taken_old kept n h = cond-true (is_in n kept) kept (kept ++ n ∷ []) h

pub taken_new : (kept : List ℕ) (n : ℕ) → is_in n kept ≡ false → taken kept n ≡ kept ++ n ∷ []
taken_new kept n h = cond-false (is_in n kept) kept (kept ++ n ∷ []) h

true_or_false : (b : Bool) → (b ≡ true) ⊎ (b ≡ false)
true_or_false true = inl refl
true_or_false false = inr refl

-- a property of a list that one more keeps
pub taken_all-keeps : (P : List ℕ → Type 0) (kept ns : List ℕ) → ((xs : List ℕ) (n : ℕ) → Contains ns n → is_in n xs ≡ false → P xs → P (xs ++ n ∷ [])) → P kept → P (taken_all kept ns)
taken_all-keeps P kept [] more' h = h
taken_all-keeps P kept (n ∷ ns) more' h =
    taken_all-keeps P (taken kept n) ns (λ xs m c. more' xs m (Contains-append_right (n ∷ []) ns m c))
    (elim (true_or_false (is_in n kept)) [
      | inl e ↦ subst P (sym (taken_old kept n e)) h
      | inr e ↦ subst P (sym (taken_new kept n e)) (more' kept n (0, omega arith, refl) e h)
    ])

pub All-once : (P : ℕ → Type 0) (ns : List ℕ) → All P ns → All P (once ns)
All-once P ns all = taken_all-keeps (All P) [] ns (λ xs n c e h. All-push P xs n h (subst P c.2 (all c.0 n c.1))) (λ k d h. absurd (omega arith))

-- a number whose place is within the kept ones is kept exactly where it stands there
pub is_there : (places kept : List ℕ) (n : ℕ) → IsPlaced places kept → get_or places n 0 < length kept → nat_eq (get_or kept (get_or places n 0) 0) n ≡ is_in n kept
is_there places kept n p h = by (nat_eq (get_or kept (get_or places n 0) 0) n) refl
  where
    by : (b : Bool) → nat_eq (get_or kept (get_or places n 0) 0) n ≡ b → b ≡ is_in n kept
    by true e = sym (in_at kept (get_or places n 0) n h (eqb-true (get_or kept (get_or places n 0) 0) n e))
    by false e = sym (not_there places kept n p (λ short within same. (let x : true ≡ false = sym (eq-eqb (get_or kept (get_or places n 0) 0) n same) ∙ e in cc)))
