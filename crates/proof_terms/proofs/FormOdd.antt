-- Which atom stands an odd number of times in an ascending list.
use Rattle.std.proofs.Common.{◌≡◌, ◌≢◌, ℕ, zero, suc, ◌<◌, ◌≤◌, ◌+◌, ◌*◌, Bool, true, false, not, nat_eq, List, [], ◌∷◌, ◌++◌, map, Option, Some, None, All, Contains, IfSome, length, get_or, take, drop, refl, sym, ap, ◌∙◌, subst, arith, length-take, length-drop, get_or-drop, get_or-take}
use Rattle.std.specs.List.{sum_by}
use Rattle.std.specs.List.Sorted.{IsNonDecreasing, IsPermutation}
use Rattle.std.proofs.lemmas.Bool.{ne_eqb}
use Rattle.std.proofs.lemmas.List.{take_more, take_all, take-append-drop, map-append, get_or_default}
use Rattle.std.proofs.lemmas.List.Elements.{All-head, All-tail, All-from_get_or, Contains-push, Contains-append_left}
use Rattle.std.proofs.lemmas.List.Sums.{sum_by-cons}
use Rattle.std.proofs.lemmas.List.Sorted.{sum_by-IsPermutation}
use Rattle.smt_meaning.specs.Term.{xor}
use Rattle.proof_terms.specs.Kept.{sign_code}
use Rattle.proof_terms.specs.FormValues.{is_odd, IsFree, IsGiven, IsOnFree, IsOddPart, IsWaiting, IsFreeAmong, toggled}
use Rattle.proof_terms.proofs.FormLists.{odd_more}
use Rattle.proof_terms.proofs.FormChosen.{eqb_refl}

odd_push : (d : ℕ → Bool) (xs : List ℕ) (i : ℕ) → i < length xs → is_odd (map d (take (i + 1) xs)) ≡ xor (is_odd (map d (take i xs))) (d (get_or xs i 0))
odd_push d xs i h =
    ap (λ ys. is_odd (map d ys)) (take_more xs i 0 h) ∙ ap is_odd (map-append d (take i xs) (get_or xs i 0 ∷ [])) ∙ odd_more (map d (take i xs)) (d (get_or xs i 0))

more_inside : (xs : List ℕ) (i : ℕ) (p : ℕ) → i < length xs → Contains (take i xs) p → Contains (take (i + 1) xs) p
more_inside xs i p h k = subst (λ ys. Contains ys p) (sym (take_more xs i 0 h)) (Contains-append_left (take i xs) (get_or xs i 0 ∷ []) p k)

last_inside : (xs : List ℕ) (i : ℕ) → i < length xs → Contains (take (i + 1) xs) (get_or xs i 0)
last_inside xs i h = subst (λ ys. Contains ys (get_or xs i 0)) (sym (take_more xs i 0 h)) (Contains-push (take i xs) (get_or xs i 0))

xor_same : (a b : Bool) → a ≡ b → xor a b ≡ false
xor_same true true e = refl
xor_same false false e = refl
xor_same true false e = e
xor_same false true e = sym e

xor_none : (a b : Bool) → b ≡ false → xor a b ≡ a
xor_none true b e = ap (xor true) e
xor_none false b e = ap (xor false) e

pub waiting_more : (codes xs : List ℕ) (i : ℕ) (p : Option ℕ) → i < length xs → IsFree codes (get_or xs i 0) → IsWaiting codes (take i xs) p → IfSome p (λ q. q ≡ get_or xs i 0)
    → IsWaiting codes (take (i + 1) xs) (toggled p (get_or xs i 0))
waiting_more codes xs i None h f w same = record {
  free = (f, last_inside xs i h);
  parity = λ d on. odd_push d xs i h ∙ ap (λ b. xor b (d (get_or xs i 0))) (w.parity d on) ∙ plain (d (get_or xs i 0));
}
  where
    plain : (b : Bool) → xor false b ≡ b
    plain true = refl
    plain false = refl
waiting_more codes xs i (Some q) h f w same = record {
  free = tt;
  parity = λ d on. odd_push d xs i h ∙ ap (λ b. xor b (d (get_or xs i 0))) (w.parity d on) ∙ xor_same (d q) (d (get_or xs i 0)) (ap d same);
}

kept_free : (codes xs : List ℕ) (i : ℕ) (p : Option ℕ) → i < length xs → IsFreeAmong codes (take i xs) p → IsFreeAmong codes (take (i + 1) xs) p
kept_free codes xs i None h f = tt
kept_free codes xs i (Some q) h f = (f.0, more_inside xs i q h f.1)

pub waiting_given : (codes xs : List ℕ) (i : ℕ) (p : Option ℕ) → i < length xs → IsGiven codes (get_or xs i 0) → IsWaiting codes (take i xs) p → IsWaiting codes (take (i + 1) xs) p
waiting_given codes xs i p h g w = record {
  free = kept_free codes xs i p h w.free;
  parity = λ d on. odd_push d xs i h ∙ xor_none (is_odd (map d (take i xs))) (d (get_or xs i 0)) (on (get_or xs i 0) g.0 g.1) ∙ w.parity d on;
}

on_free : (codes : List ℕ) (q : ℕ) → IsFree codes q → IsOnFree codes (nat_eq q)
on_free codes q f n b k = ne_eqb q n (λ e. f b (subst (λ m. Contains codes (m * 2 + sign_code b)) (sym e) k))

pub waiting_all : (codes xs : List ℕ) (i : ℕ) (p : Option ℕ) → length xs ≤ i → IsWaiting codes (take i xs) p → IsOddPart codes xs p
waiting_all codes xs i None l w = λ d on. ap (λ ys. is_odd (map d ys)) (sym (take_all i xs l)) ∙ w.parity d on
waiting_all codes xs i (Some q) l w =
    (w.free.0, ap (λ ys. is_odd (map (nat_eq q) ys)) (sym (take_all i xs l)) ∙ w.parity (nat_eq q) (on_free codes q w.free.0) ∙ eqb_refl q)

no_one_odd : (d : ℕ → Bool) (xs : List ℕ) → All (λ x. d x ≡ false) xs → is_odd (map d xs) ≡ false
no_one_odd d [] h = refl
no_one_odd d (x ∷ xs) h =
    ap (λ b. xor b (is_odd (map d xs))) (All-head (λ y. d y ≡ false) x xs h) ∙ ap (xor false) (no_one_odd d xs (All-tail (λ y. d y ≡ false) x xs h))

odd_append : (xs ys : List Bool) → is_odd (xs ++ ys) ≡ xor (is_odd xs) (is_odd ys)
odd_append [] ys = plain (is_odd ys)
  where
    plain : (b : Bool) → b ≡ xor false b
    plain true = refl
    plain false = refl
odd_append (x ∷ xs) ys = ap (xor x) (odd_append xs ys) ∙ assoc x (is_odd xs) (is_odd ys)
  where
    assoc : (a b c : Bool) → xor a (xor b c) ≡ xor (xor a b) c
    assoc true true true = refl
    assoc true true false = refl
    assoc true false true = refl
    assoc true false false = refl
    assoc false true true = refl
    assoc false true false = refl
    assoc false false true = refl
    assoc false false false = refl

-- where another atom comes, the one that waited comes no more
stop_at : (codes xs : List ℕ) (i q : ℕ) → IsNonDecreasing xs → i < length xs → IsWaiting codes (take i xs) (Some q) → q ≢ get_or xs i 0 → IsOddPart codes xs (Some q)
stop_at codes xs i q up h w apart = (
  w.free.0,
  ap (λ ys. is_odd (map (nat_eq q) ys)) (sym (take-append-drop i xs))
      ∙ ap is_odd (map-append (nat_eq q) (take i xs) (drop i xs))
      ∙ odd_append (map (nat_eq q) (take i xs)) (map (nat_eq q) (drop i xs))
      ∙ ap (λ b. xor b (is_odd (map (nat_eq q) (drop i xs)))) (w.parity (nat_eq q) (on_free codes q w.free.0) ∙ eqb_refl q)
      ∙ ap (xor true) (no_one_odd (nat_eq q) (drop i xs) later),
)
  where
    place : ℕ
    place = w.free.1.0

    place_within : place < length (take i xs)
    place_within = w.free.1.1

    before : place < i
    before = omega (arith, place_within, length-take i xs)

    reads : q ≡ get_or xs place 0
    reads = sym w.free.1.2 ∙ get_or-take_at ∙ get_or_default xs place q 0 (omega (arith, before, h))
      where
        get_or-take_at : get_or (take i xs) place q ≡ get_or xs place q
        get_or-take_at = get_or-take i xs place q before

    less : q < get_or xs i 0
    less = let low : get_or xs place 0 ≤ get_or xs i 0 = up place i 0 (omega (arith, before)) h in omega (arith, low, reads, apart)

    later : All (λ x. nat_eq q x ≡ false) (drop i xs)
    later = All-from_get_or (λ x. nat_eq q x ≡ false) (drop i xs) 0 at
      where
        at : (k : ℕ) → k < length (drop i xs) → nat_eq q (get_or (drop i xs) k 0) ≡ false
        at k l =
            let inside : i + k < length xs = omega (arith, l, length-drop i xs) in
            let high : get_or xs i 0 ≤ get_or xs (i + k) 0 = up i (i + k) 0 (omega arith) inside in
            ne_eqb q _ (λ e. absurd (let there : q ≡ get_or xs (i + k) 0 = e ∙ get_or-drop i xs k 0 in omega (arith, less, high, there)))

pub waiting_stop : (codes xs : List ℕ) (i : ℕ) (p : Option ℕ) → IsNonDecreasing xs → i < length xs → IsWaiting codes (take i xs) p → (q : ℕ) × (p ≡ Some q) × (q ≢ get_or xs i 0) → IsOddPart codes xs p
waiting_stop codes xs i p up h w t =
    subst (IsOddPart codes xs) (sym t.1) (stop_at codes xs i t.0 up h (subst (IsWaiting codes (take i xs)) t.1 w) t.2)

-- ---- the order doesn't matter

bit : Bool → ℕ
bit true = 1
bit false = 0

odd_number : ℕ → Bool
odd_number zero = false
odd_number (suc n) = not (odd_number n)

by_sum : (d : ℕ → Bool) (xs : List ℕ) → is_odd (map d xs) ≡ odd_number (sum_by (λ x. bit (d x)) xs)
unfolding bit odd_number
by_sum d [] = refl
by_sum d (x ∷ xs) = ap (xor (d x)) (by_sum d xs) ∙ at (d x) (sum_by (λ y. bit (d y)) xs) ∙ sym (ap odd_number (sum_by-cons (λ y. bit (d y)) x xs))
  where
    odd_step : (n : ℕ) → odd_number (1 + n) ≡ not (odd_number n)
    odd_step n = let e : 1 + n ≡ suc n = omega arith in ap odd_number e

    odd_zero : (n : ℕ) → odd_number (0 + n) ≡ odd_number n
    odd_zero n = let e : 0 + n ≡ n = omega arith in ap odd_number e

    xor_true : (a : Bool) → xor true a ≡ not a
    xor_true true = refl
    xor_true false = refl

    xor_plain : (a : Bool) → xor false a ≡ a
    xor_plain true = refl
    xor_plain false = refl

    at : (b : Bool) (n : ℕ) → xor b (odd_number n) ≡ odd_number (bit b + n)
    at true n = xor_true (odd_number n) ∙ sym (odd_step n)
    at false n = xor_plain (odd_number n) ∙ sym (odd_zero n)

odd_permuted : (d : ℕ → Bool) (xs ys : List ℕ) → IsPermutation xs ys → is_odd (map d xs) ≡ is_odd (map d ys)
odd_permuted d xs ys p = by_sum d xs ∙ sym (ap odd_number (sum_by-IsPermutation (λ x. bit (d x)) xs ys p)) ∙ sym (by_sum d ys)

pub odd_part_permuted : (codes xs ys : List ℕ) (p : Option ℕ) → IsPermutation xs ys → IsOddPart codes ys p → IsOddPart codes xs p
odd_part_permuted codes xs ys None h o = λ d on. odd_permuted d xs ys h ∙ o d on
odd_part_permuted codes xs ys (Some q) h o = (o.0, odd_permuted (nat_eq q) xs ys h ∙ o.1)
