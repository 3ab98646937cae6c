-- Lists of truth values, and what an ascending list has.
use Rattle.std.proofs.Common.{◌≡◌, ℕ, ◌<◌, ◌≤◌, ◌/◌, Bool, true, false, not, ◌&&◌, ◌||◌, nat_eq, List, [], ◌∷◌, ◌++◌, length, take, get_or, map, All, Contains, Result, Ok, Err, MatchResult, is_ok, ◌⊎◌, inl, inr, refl, sym, ap, ◌∙◌, subst, arith}
use Rattle.std.specs.List.{list_all}
use Rattle.std.specs.List.Sorted.{IsBinarySearchResult, IsNonDecreasing, IsPermutation}
use Rattle.std.specs.Ordering.{nat_cmp}
use mathlib.Core.Bool.{beq}
use Rattle.std.proofs.lemmas.Bool.Decides.{nat_tests}
use Rattle.std.proofs.lemmas.Bool.{ne_eqb, cases_lt}
use Rattle.std.proofs.lemmas.List.Sorted.{searched, Contains-permutation}
use Rattle.std.proofs.lemmas.List.Elements.{All-weaker}
use Rattle.std.proofs.lemmas.List.Folds.{list_any_none, list_any_at}
use Rattle.std.proofs.lemmas.List.{take_all, get_or_default}
use Rattle.smt_meaning.specs.Term.{xor, implies}
use Rattle.proof_terms.specs.FormValues.{itself, is_odd, implied, implied_from, is_in, IsAmong}

-- ---- connectives

pub xor_assoc : (a b c : Bool) → xor (xor a b) c ≡ xor a (xor b c)
xor_assoc true true true = refl
xor_assoc true true false = refl
xor_assoc true false true = refl
xor_assoc true false false = refl
xor_assoc false true true = refl
xor_assoc false true false = refl
xor_assoc false false true = refl
xor_assoc false false false = refl

pub xor_false : (a : Bool) → xor a false ≡ a
xor_false true = refl
xor_false false = refl

pub as_xor : (a b : Bool) → not (beq a b) ≡ xor a b
as_xor true true = refl
as_xor true false = refl
as_xor false true = refl
as_xor false false = refl

pub odd_more : (bs : List Bool) (b : Bool) → is_odd (bs ++ b ∷ []) ≡ xor (is_odd bs) b
odd_more [] b = at b
  where
    at : (b : Bool) → xor b false ≡ xor false b
    at true = refl
    at false = refl
odd_more (c ∷ bs) b = ap (xor c) (odd_more bs b) ∙ sym (xor_assoc c (is_odd bs) b)

-- the parity of two tests, one of which is the difference
pub odd_xor : (f d g : ℕ → Bool) → ((n : ℕ) → g n ≡ xor (f n) (d n)) → (ps : List ℕ) → is_odd (map g ps) ≡ xor (is_odd (map f ps)) (is_odd (map d ps))
odd_xor f d g each [] = refl
odd_xor f d g each (p ∷ ps) =
    ap (λ b. xor b (is_odd (map g ps))) (each p) ∙ ap (xor (xor (f p) (d p))) (odd_xor f d g each ps) ∙ middle (f p) (d p) (is_odd (map f ps)) (is_odd (map d ps))
  where
    swap : (a b c : Bool) → xor a (xor b c) ≡ xor b (xor a c)
    swap true true c = refl
    swap false false c = refl
    swap true false true = refl
    swap true false false = refl
    swap false true true = refl
    swap false true false = refl

    middle : (a b c d : Bool) → xor (xor a b) (xor c d) ≡ xor (xor a c) (xor b d)
    middle a b c d = xor_assoc a b (xor c d) ∙ ap (xor a) (swap b c d) ∙ sym (xor_assoc a c (xor b d))

implied_from_last : (c : Bool) (bs : List Bool) (b : Bool) → implied_from c (bs ++ b ∷ []) ≡ (b || not (c && list_all itself bs))
implied_from_last c [] b = at c b
  where
    at : (c b : Bool) → implies c b ≡ (b || not (c && true))
    at true true = refl
    at true false = refl
    at false true = refl
    at false false = refl
implied_from_last c (d ∷ bs) b = ap (implies c) (implied_from_last d bs b) ∙ at c (d && list_all itself bs) b
  where
    at : (c d b : Bool) → implies c (b || not d) ≡ (b || not (c && d))
    at true d true = refl
    at true d false = refl
    at false d true = refl
    at false d false = refl

pub implied_last : (bs : List Bool) (b : Bool) → implied (bs ++ b ∷ []) ≡ (b || not (list_all itself bs))
implied_last [] true = refl
implied_last [] false = refl
implied_last (c ∷ bs) b = implied_from_last c bs b

-- ---- search

pub found : (xs : List ℕ) (x : ℕ) (r : Result ℕ ℕ) → IsBinarySearchResult (λ y. nat_cmp y x) xs r → IsNonDecreasing xs → is_ok r ≡ is_in xs x
found xs x r h up = by r (searched xs x r h (λ i j l m. up i j 0 l m))
  where
    by : (r : Result ℕ ℕ) → MatchResult r (λ i. (i < length xs) × (get_or xs i 0 ≡ x)) (λ i. (i ≤ length xs) × ((k : ℕ) → k < i → get_or xs k 0 < x) × ((k : ℕ) → i ≤ k → k < length xs → x < get_or xs k 0))
        → is_ok r ≡ is_in xs x
    by (Ok i) p = sym (list_any_at (λ y. nat_eq y x) xs i 0 p.0 (grind (arith, nat_tests)))
    by (Err i) p = sym (list_any_none (λ y. nat_eq y x) xs (λ k d l. other k d l (cases_lt k i)))
      where
        other : (k d : ℕ) → k < length xs → (k < i) ⊎ (i ≤ k) → nat_eq (get_or xs k d) x ≡ false
        other k d l (inl b) = ne_eqb (get_or xs k d) x (λ e. let less : get_or xs k 0 < x = p.1 k b in absurd (omega (arith, less, get_or_default xs k d 0 l, e)))
        other k d l (inr b) = ne_eqb (get_or xs k d) x (λ e. let more : x < get_or xs k 0 = p.2 k b l in absurd (omega (arith, more, get_or_default xs k d 0 l, e)))

pub all_taken : {X : Type 0} (P : X → Type 0) (xs : List X) (i : ℕ) → length xs ≤ i → All P (take i xs) → All P xs
all_taken P xs i l h = subst (All P) (take_all i xs l) h

-- ---- sorted lists

pub permuted_to : (xs old new seen : List ℕ) → old ≡ xs → IsPermutation old new → seen ≡ new → IsPermutation xs seen
permuted_to xs old new seen e p s = subst (λ ys. IsPermutation ys seen) e (subst (IsPermutation old) (sym s) p)

pub all_among : (own : ℕ) (xs ys codes : List ℕ) → IsPermutation xs ys → All (IsAmong own xs) codes → All (IsAmong own ys) codes
all_among own xs ys codes p all = All-weaker (IsAmong own xs) (IsAmong own ys) (λ c h. at c h) codes all
  where
    at : (c : ℕ) → (c / 2 ≡ own) ⊎ Contains xs (c / 2) → IsAmong own ys c
    at c (inl e) = inl e
    at c (inr k) = inr (Contains-permutation xs ys (c / 2) p k)
