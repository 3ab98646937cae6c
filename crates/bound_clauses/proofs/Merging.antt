-- The chain of two lists, step by step.
use Rattle.std.proofs.Common.{◌≡◌, ℕ, ◌+◌, ◌-◌, ◌<◌, ◌≤◌, ◌⊎◌, inl, inr, Bool, true, false, List, [], ◌∷◌, ◌++◌, take, drop, length, get_or, refl, sym, ap, ◌∙◌, arith, drop-cons, add-one, append_assoc, append-nil, ℤ, SFits, to_z, of_z}
use Rattle.std.specs.Int.{w128}
use Rattle.std.proofs.lemmas.Int.{to_z-of_z}
use Rattle.std.specs.Prelude.{int_lt}
use Rattle.std.proofs.lemmas.Bool.{cases_lt, cond-false, cond-true}
use Rattle.std.proofs.lemmas.List.{take_more, drop_all}
use Rattle.bound_clauses.specs.declared.axioms.Bound.{Bound}
use Rattle.bound_clauses.specs.declared.axioms.Link.{Link}
use Rattle.bound_clauses.specs.Chain.{of_sum, of_sums, of_negation, of_negations, merged}

pub of_negations-push : (bs : List Bound) (b : Bound) → of_negations (bs ++ b ∷ []) ≡ of_negation b ∷ of_negations bs
of_negations-push [] b = refl
of_negations-push (c ∷ bs) b = ap (λ ls. ls ++ of_negation c ∷ []) (of_negations-push bs b)

pub of_negations-take : (bs : List Bound) (i : ℕ) (d : Bound) → i < length bs → of_negations (take (i + 1) bs) ≡ of_negation (get_or bs i d) ∷ of_negations (take i bs)
of_negations-take bs i d h = ap of_negations (take_more bs i d h) ∙ of_negations-push (take i bs) (get_or bs i d)

pub of_sums-drop : (bs : List Bound) (i : ℕ) (d : Bound) → i < length bs → of_sums (drop i bs) ≡ of_sum (get_or bs i d) ∷ of_sums (drop (i + 1) bs)
of_sums-drop bs i d h = rw (add-one, drop-cons bs i d h) refl

pub merged-nil : (xs : List Link) → merged xs [] ≡ xs
merged-nil [] = refl
merged-nil (x ∷ xs) = ap (λ ls. x ∷ ls) (merged-nil xs)

pub merged-second : (x y : Link) (xs ys : List Link) → int_lt y.threshold x.threshold ≡ true → merged (x ∷ xs) (y ∷ ys) ≡ y ∷ merged (x ∷ xs) ys
merged-second x y xs ys h = cond-true (int_lt y.threshold x.threshold) (y ∷ merged (x ∷ xs) ys) (x ∷ merged xs (y ∷ ys)) h

pub merged-first : (x y : Link) (xs ys : List Link) → int_lt y.threshold x.threshold ≡ false → merged (x ∷ xs) (y ∷ ys) ≡ x ∷ merged xs (y ∷ ys)
merged-first x y xs ys h = cond-false (int_lt y.threshold x.threshold) (y ∷ merged (x ∷ xs) ys) (x ∷ merged xs (y ∷ ys)) h

-- the bits of numbers that fit, read back
pub read_back : (test : ℤ → ℤ → Bool) (a b : ℤ) (result : Bool) → SFits w128 a → SFits w128 b → test (to_z w128 (of_z w128 a)) (to_z w128 (of_z w128 b)) ≡ result → test a b ≡ result
read_back test a b result fits_a fits_b e = ap (λ x. test x b) (sym (to_z-of_z w128 a fits_a)) ∙ ap (test (to_z w128 (of_z w128 a))) (sym (to_z-of_z w128 b fits_b)) ∙ e

-- ---- steps of the loops

last_first : (bs : List Bound) (i : ℕ) (d : Bound) → 0 < i → i ≤ length bs → of_negations (take i bs) ≡ of_negation (get_or bs (i - 1) d) ∷ of_negations (take (i - 1) bs)
last_first bs i d pos' h =
    ap (λ n. of_negations (take n bs)) (let e : i ≡ i - 1 + 1 = omega arith in e) ∙ of_negations-take bs (i - 1) d (omega arith)

moved : {A : Type 0} (ls ls' rest rest' all : List A) (x : A) → ls' ≡ ls ++ x ∷ [] → rest ≡ x ∷ rest' → (ls ++ rest) ≡ all → (ls' ++ rest') ≡ all
moved ls ls' rest rest' all x e f g = ap (λ xs. xs ++ rest') e ∙ append_assoc ls (x ∷ []) rest' ∙ ap (λ xs. ls ++ xs) (sym f) ∙ g

pub negation_added : (ls ls' all : List Link) (bs : List Bound) (i : ℕ) (d : Bound) (x : Link) → 0 < i → i ≤ length bs → x ≡ of_negation (get_or bs (i - 1) d)
    → ls' ≡ ls ++ x ∷ [] → (ls ++ of_negations (take i bs)) ≡ all → (ls' ++ of_negations (take (i - 1) bs)) ≡ all
negation_added ls ls' all bs i d x pos' h e f g =
    moved ls ls' (of_negations (take i bs)) (of_negations (take (i - 1) bs)) all x f (last_first bs i d pos' h ∙ ap (λ y. y ∷ of_negations (take (i - 1) bs)) (sym e)) g

module _ (ls ls' all : List Link) (bs ns : List Bound) (i j : ℕ) (d e : Bound) (x y : Link) (i_within : i < length bs) (j_above : 0 < j) (j_within : j ≤ length ns)
    (x_is : x ≡ of_sum (get_or bs i d)) (y_is : y ≡ of_negation (get_or ns (j - 1) e)) where
  heads : merged (of_sums (drop i bs)) (of_negations (take j ns)) ≡ merged (x ∷ of_sums (drop (i + 1) bs)) (y ∷ of_negations (take (j - 1) ns))
  heads =
      ap (λ xs. merged xs (of_negations (take j ns))) (of_sums-drop bs i d i_within ∙ ap (λ z. z ∷ of_sums (drop (i + 1) bs)) (sym x_is))
      ∙ ap (merged (x ∷ of_sums (drop (i + 1) bs))) (last_first ns j e j_above j_within ∙ ap (λ z. z ∷ of_negations (take (j - 1) ns)) (sym y_is))

  pub second_moved : int_lt y.threshold x.threshold ≡ true → ls' ≡ ls ++ y ∷ [] → (ls ++ merged (of_sums (drop i bs)) (of_negations (take j ns))) ≡ all
      → (ls' ++ merged (of_sums (drop i bs)) (of_negations (take (j - 1) ns))) ≡ all
  second_moved less f g =
      ap (λ xs. ls' ++ merged xs (of_negations (take (j - 1) ns))) (of_sums-drop bs i d i_within ∙ ap (λ z. z ∷ of_sums (drop (i + 1) bs)) (sym x_is))
      ∙ moved ls ls' (merged (of_sums (drop i bs)) (of_negations (take j ns))) (merged (x ∷ of_sums (drop (i + 1) bs)) (of_negations (take (j - 1) ns))) all y f
      (heads ∙ merged-second x y (of_sums (drop (i + 1) bs)) (of_negations (take (j - 1) ns)) less) g

  pub first_moved : int_lt y.threshold x.threshold ≡ false → ls' ≡ ls ++ x ∷ [] → (ls ++ merged (of_sums (drop i bs)) (of_negations (take j ns))) ≡ all
      → (ls' ++ merged (of_sums (drop (i + 1) bs)) (of_negations (take j ns))) ≡ all
  first_moved le f g =
      ap (λ ys. ls' ++ merged (of_sums (drop (i + 1) bs)) ys) (last_first ns j e j_above j_within ∙ ap (λ z. z ∷ of_negations (take (j - 1) ns)) (sym y_is))
      ∙ moved ls ls' (merged (of_sums (drop i bs)) (of_negations (take j ns))) (merged (of_sums (drop (i + 1) bs)) (y ∷ of_negations (take (j - 1) ns))) all x f
      (heads ∙ merged-first x y (of_sums (drop (i + 1) bs)) (of_negations (take (j - 1) ns)) le) g

-- what is left when one list has ended
pub ended : (ls all : List Link) (bs ns : List Bound) (i j : ℕ) → i ≤ length bs → (i < length bs → 0 < j → ⊥) → (ls ++ merged (of_sums (drop i bs)) (of_negations (take j ns))) ≡ all
    → ((ls ++ of_sums (drop i bs)) ++ of_negations (take j ns)) ≡ all
ended ls all bs ns i j within stop g = append_assoc ls (of_sums (drop i bs)) (of_negations (take j ns)) ∙ ap (λ xs. ls ++ xs) (by_cases (cases_lt i (length bs)) (cases_lt 0 j)) ∙ g
  where
    none_left : length bs ≤ i → (of_sums (drop i bs) ++ of_negations (take j ns)) ≡ merged (of_sums (drop i bs)) (of_negations (take j ns))
    none_left h = rw (drop_all i bs h) refl

    by_cases : (i < length bs) ⊎ (length bs ≤ i) → (0 < j) ⊎ (j ≤ 0) → (of_sums (drop i bs) ++ of_negations (take j ns)) ≡ merged (of_sums (drop i bs)) (of_negations (take j ns))
    by_cases (inr h) k = none_left h
    by_cases (inl h) (inl k) = absurd (stop h k)
    by_cases (inl h) (inr k) =
        let zero' : j ≡ 0 = omega arith in
        ap (λ n. of_sums (drop i bs) ++ of_negations (take n ns)) zero' ∙ append-nil (of_sums (drop i bs)) ∙ sym (merged-nil (of_sums (drop i bs)))
        ∙ ap (λ n. merged (of_sums (drop i bs)) (of_negations (take n ns))) (sym zero')
