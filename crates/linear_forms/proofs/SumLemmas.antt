-- Sums and their coefficients.
use Rattle.std.proofs.Common.{◌≡◌, ◌≢◌, ◌*◌, ◌^◌, lit<, ◌⊎◌, inl, inr, ℕ, zero, suc, ◌+◌, ◌<◌, ◌≤◌, Bool, true, false, nat_eq, nat_lt, List, [], ◌∷◌, eq-eqb, subst, sym, ap, ◌∙◌, arith, refl}
use Rattle.std.specs.Prelude.{ℤ, pos, negsuc, ◌+ℤ◌, ◌*ℤ◌, neg_ℤ, unsigned_abs, if◌then◌else◌}
use Rattle.std.proofs.lemmas.Int.{ints}
use Rattle.std.proofs.lemmas.Bool.{eqb-true, eqb-false, ne_eqb, ltb-true, ltb-false, lt-ltb}
use Rattle.std.proofs.Math.IntN.{zero-*ℤ, *ℤ-zero}
use Rattle.fraction128.specs.Whole.{InRange, is_in_range}
use Rattle.smt_meaning.specs.declared.clauses.Summand.{Summand}
use Rattle.smt_meaning.specs.Linear.{summand, unless_zero, placed, with_term, sums_added, each_times, sum_times, sum_fits}
use Rattle.smt_laws.proofs.Both.{and_left, and_right, and_both}
use Rattle.linear_forms.specs.Sums.{coefficient_of, IsSumWithin, IsSum}

-- ---- the coefficient of a place

pub at_first : (p : Summand) (ps : List Summand) (i : ℕ) → p.term ≡ i → coefficient_of (p ∷ ps) i ≡ p.coefficient
at_first p ps i e = ap (λ b. if b then p.coefficient else coefficient_of ps i) (eq-eqb p.term i e)

pub past_first : (p : Summand) (ps : List Summand) (i : ℕ) → p.term ≢ i → coefficient_of (p ∷ ps) i ≡ coefficient_of ps i
past_first p ps i e = ap (λ b. if b then p.coefficient else coefficient_of ps i) (ne_eqb p.term i e)

pub absent_below : (low high : ℕ) (ps : List Summand) (i : ℕ) → IsSumWithin low high ps → i < low → coefficient_of ps i ≡ pos 0
absent_below low high [] i h l = refl
absent_below low high (p ∷ ps) i h l =
    let a : low ≤ p.term = h.0 in
    past_first p ps i (λ e. absurd (omega arith)) ∙ absent_below (p.term + 1) high ps i h.3 (omega arith)

pub absent_above : (low high : ℕ) (ps : List Summand) (i : ℕ) → IsSumWithin low high ps → high ≤ i → coefficient_of ps i ≡ pos 0
absent_above low high [] i h l = refl
absent_above low high (p ∷ ps) i h l =
    let a : p.term < high = h.1 in
    past_first p ps i (λ e. absurd (omega arith)) ∙ absent_above (p.term + 1) high ps i h.3 l

pub from_lower : (low lower high : ℕ) (ps : List Summand) → lower ≤ low → IsSumWithin low high ps → IsSumWithin lower high ps
from_lower low lower high [] l h = tt
from_lower low lower high (p ∷ ps) l h = let a : low ≤ p.term = h.0 in (omega arith, h.1, h.2, h.3)

pub to_higher : (low high higher : ℕ) (ps : List Summand) → high ≤ higher → IsSumWithin low high ps → IsSumWithin low higher ps
to_higher low high higher [] l h = tt
to_higher low high higher (p ∷ ps) l h = let a : p.term < high = h.1 in (h.0, omega arith, h.2, to_higher (p.term + 1) high higher ps l h.3)

-- ---- sums with the same coefficients are the same

same_summand : (p q : Summand) → p.term ≡ q.term → p.coefficient ≡ q.coefficient → p ≡ q
same_summand p q e f = ap (λ i. summand i p.coefficient) e ∙ ap (summand q.term) f

pub order : (a b : ℕ) → (a < b) ⊎ ((b < a) ⊎ (a ≡ b))
order zero zero = inr (inr refl)
order zero (suc b) = inl (omega arith)
order (suc a) zero = inr (inl (omega arith))
order (suc a) (suc b) = elim (order a b) [ inl l ↦ inl (omega arith) | inr r ↦ elim r [ inl l ↦ inr (inl (omega arith)) | inr e ↦ inr (inr (ap suc e)) ] ]

pub same_sums : (low high : ℕ) (ps qs : List Summand) → IsSumWithin low high ps → IsSumWithin low high qs → ((i : ℕ) → coefficient_of ps i ≡ coefficient_of qs i) → ps ≡ qs
same_sums low high [] [] a b e = refl
same_sums low high [] (q ∷ qs) a b e = absurd (b.2 (sym (e q.term ∙ at_first q qs q.term refl)))
same_sums low high (p ∷ ps) [] a b e = absurd (a.2 (sym (at_first p ps p.term refl) ∙ e p.term))
same_sums low high (p ∷ ps) (q ∷ qs) a b e =
    by (order p.term q.term) (λ more f. same_sums (p.term + 1) high ps qs a.3 more f)
  where
    below : (x y : Summand) (ys : List Summand) → x.term < y.term → IsSumWithin low high (y ∷ ys) → coefficient_of (y ∷ ys) x.term ≡ pos 0
    below x y ys l c = past_first y ys x.term (λ same. absurd (omega arith)) ∙ absent_below (y.term + 1) high ys x.term c.3 (omega arith)

    rest : p.term ≡ q.term → (i : ℕ) → (p.term < i) ⊎ ((i < p.term) ⊎ (p.term ≡ i)) → coefficient_of ps i ≡ coefficient_of qs i
    rest same i (inl l) = sym (past_first p ps i (λ x. absurd (omega arith))) ∙ e i ∙ past_first q qs i (λ x. absurd (omega arith))
    rest same i (inr (inl l)) = sym (past_first p ps i (λ x. absurd (omega arith))) ∙ e i ∙ past_first q qs i (λ x. absurd (omega arith))
    rest same i (inr (inr x)) =
        absent_below (p.term + 1) high ps i a.3 (omega arith) ∙ sym (absent_below (q.term + 1) high qs i b.3 (omega arith))

    by : (p.term < q.term) ⊎ ((q.term < p.term) ⊎ (p.term ≡ q.term)) → (IsSumWithin (p.term + 1) high qs → ((i : ℕ) → coefficient_of ps i ≡ coefficient_of qs i) → ps ≡ qs)
        → p ∷ ps ≡ q ∷ qs
    by (inl l) again = absurd (a.2 (sym (at_first p ps p.term refl) ∙ e p.term ∙ below p q qs l b))
    by (inr (inl l)) again = absurd (b.2 (sym (at_first q qs q.term refl) ∙ sym (e q.term) ∙ below q p ps l a))
    by (inr (inr same)) again =
        let first : p ≡ q = same_summand p q same (sym (at_first p ps p.term refl) ∙ e p.term ∙ at_first q qs p.term (sym same)) in
        let others : ps ≡ qs = again (subst (λ k. IsSumWithin (k + 1) high qs) (sym same) b.3) (λ i. rest same i (order p.term i)) in
        ap (λ x. x ∷ ps) first ∙ ap (λ xs. q ∷ xs) others

-- ---- a term more

unless_zero_sum : (low high i : ℕ) (c : ℤ) (ps : List Summand) → low ≤ i → i < high → IsSumWithin low high ps → IsSumWithin (i + 1) high ps → IsSumWithin low high (unless_zero i c ps)
unless_zero_sum low high i (pos zero) ps l m h k = h
unless_zero_sum low high i (pos (suc n)) ps l m h k = (l, m, λ e. cc, k)
unless_zero_sum low high i (negsuc n) ps l m h k = (l, m, λ e. cc, k)

-- the number at one place, 0 at the others
abbrev pub only_at : ℕ → ℤ → ℕ → ℤ
only_at i c j = if nat_eq i j then c else pos 0

pub only_there : (i : ℕ) (c : ℤ) (j : ℕ) → i ≡ j → only_at i c j ≡ c
only_there i c j e = ap (λ b. if b then c else pos 0) (eq-eqb i j e)

pub only_elsewhere : (i : ℕ) (c : ℤ) (j : ℕ) → i ≢ j → only_at i c j ≡ pos 0
only_elsewhere i c j e = ap (λ b. if b then c else pos 0) (ne_eqb i j e)

pub plus_none : (z : ℤ) → z +ℤ pos 0 ≡ z
plus_none z = omega (arith, ints)

pub none_plus : (z : ℤ) → pos 0 +ℤ z ≡ z
none_plus z = omega (arith, ints)

pub plus_comm : (y z : ℤ) → y +ℤ z ≡ z +ℤ y
plus_comm y z = omega (arith, ints)

new_at : (i : ℕ) (c : ℤ) (ps : List Summand) (j : ℕ) → coefficient_of ps i ≡ pos 0 → (b : Bool) → nat_eq i j ≡ b → coefficient_of (summand i c ∷ ps) j ≡ coefficient_of ps j +ℤ only_at i c j
new_at i c ps j e true t =
    let same : i ≡ j = eqb-true i j t in
    at_first (summand i c) ps j same ∙ sym (none_plus c) ∙ ap (λ z. z +ℤ c) (sym (ap (coefficient_of ps) (sym same) ∙ e)) ∙ ap (λ z. coefficient_of ps j +ℤ z) (sym (only_there i c j same))
new_at i c ps j e false f =
    let other : i ≢ j = eqb-false i j f in
    past_first (summand i c) ps j other ∙ sym (plus_none (coefficient_of ps j)) ∙ ap (λ z. coefficient_of ps j +ℤ z) (sym (only_elsewhere i c j other))

unless_zero_at : (i : ℕ) (c : ℤ) (ps : List Summand) (j : ℕ) → coefficient_of ps i ≡ pos 0 → coefficient_of (unless_zero i c ps) j ≡ coefficient_of ps j +ℤ only_at i c j
unless_zero_at i (pos zero) ps j e = sym (plus_none (coefficient_of ps j)) ∙ ap (λ z. coefficient_of ps j +ℤ z) (sym (zero_at (nat_eq i j)))
  where
    zero_at : (b : Bool) → (if b then pos 0 else pos 0) ≡ pos 0
    zero_at true = refl
    zero_at false = refl
unless_zero_at i (pos (suc n)) ps j e = new_at i (pos (suc n)) ps j e (nat_eq i j) refl
unless_zero_at i (negsuc n) ps j e = new_at i (negsuc n) ps j e (nat_eq i j) refl

module _ (high i : ℕ) (c : ℤ) (inside : i < high) where
  with_term_sum : (low : ℕ) (ps : List Summand) → low ≤ i → IsSumWithin low high ps → IsSumWithin low high (with_term i c ps)
  with_term_sum low [] l h = unless_zero_sum low high i c [] l inside tt tt
  with_term_sum low (p ∷ ps) l h = by (nat_lt i p.term) (nat_eq i p.term) refl refl (λ m. with_term_sum (p.term + 1) ps m h.3)
    where
      by : (a b : Bool) → nat_lt i p.term ≡ a → nat_eq i p.term ≡ b → (p.term + 1 ≤ i → IsSumWithin (p.term + 1) high (with_term i c ps)) → IsSumWithin low high (placed a b i c p ps (with_term i c ps))
      by true b ea eb again =
          let less : i < p.term = ltb-true i p.term ea in unless_zero_sum low high i c (p ∷ ps) l inside h (from_lower p.term (i + 1) high (p ∷ ps) (omega arith) (omega arith, h.1, h.2, h.3))
      by false true ea eb again =
          let same : i ≡ p.term = eqb-true i p.term eb in
          let next : IsSumWithin (i + 1) high ps = subst (λ k. IsSumWithin (k + 1) high ps) (sym same) h.3 in
          unless_zero_sum low high i (c +ℤ p.coefficient) ps l inside (from_lower (i + 1) low high ps (omega arith) next) next
      by false false ea eb again =
          let more : p.term ≤ i = ltb-false i p.term ea in
          let other : i ≢ p.term = eqb-false i p.term eb in
          (h.0, h.1, h.2, again (omega arith))

  with_term_at : (low : ℕ) (ps : List Summand) (j : ℕ) → IsSumWithin low high ps → coefficient_of (with_term i c ps) j ≡ coefficient_of ps j +ℤ only_at i c j
  with_term_at low [] j h = unless_zero_at i c [] j refl
  with_term_at low (p ∷ ps) j h = by (nat_lt i p.term) (nat_eq i p.term) refl refl (with_term_at (p.term + 1) ps j h.3)
    where
      at_p : (rest : List Summand) → (b : Bool) → nat_eq p.term j ≡ b → (i ≢ p.term) → coefficient_of rest j ≡ coefficient_of ps j +ℤ only_at i c j → coefficient_of (p ∷ rest) j ≡ coefficient_of (p ∷ ps) j +ℤ only_at i c j
      at_p rest true t other e =
          let same : p.term ≡ j = eqb-true p.term j t in
          at_first p rest j same ∙ sym (plus_none p.coefficient) ∙ ap (λ z. z +ℤ pos 0) (sym (at_first p ps j same))
          ∙ ap (λ z. coefficient_of (p ∷ ps) j +ℤ z) (sym (only_elsewhere i c j (λ x. other (x ∙ sym same))))
      at_p rest false f other e =
          let apart : p.term ≢ j = eqb-false p.term j f in
          past_first p rest j apart ∙ e ∙ ap (λ z. z +ℤ only_at i c j) (sym (past_first p ps j apart))

      met : (b : Bool) → nat_eq i j ≡ b → i ≡ p.term → coefficient_of ps j +ℤ only_at i (c +ℤ p.coefficient) j ≡ coefficient_of (p ∷ ps) j +ℤ only_at i c j
      met true t same =
          let here : i ≡ j = eqb-true i j t in
          let none : coefficient_of ps j ≡ pos 0 = absent_below (p.term + 1) high ps j h.3 (omega arith) in
          ap (λ z. z +ℤ only_at i (c +ℤ p.coefficient) j) none ∙ none_plus (only_at i (c +ℤ p.coefficient) j) ∙ only_there i (c +ℤ p.coefficient) j here ∙ plus_comm c p.coefficient
          ∙ ap (λ z. z +ℤ c) (sym (at_first p ps j (sym same ∙ here))) ∙ ap (λ z. coefficient_of (p ∷ ps) j +ℤ z) (sym (only_there i c j here))
      met false f same =
          let apart : i ≢ j = eqb-false i j f in
          ap (λ z. coefficient_of ps j +ℤ z) (only_elsewhere i (c +ℤ p.coefficient) j apart ∙ sym (only_elsewhere i c j apart))
          ∙ ap (λ z. z +ℤ only_at i c j) (sym (past_first p ps j (λ x. apart (same ∙ x))))

      by : (a b : Bool) → nat_lt i p.term ≡ a → nat_eq i p.term ≡ b → coefficient_of (with_term i c ps) j ≡ coefficient_of ps j +ℤ only_at i c j
          → coefficient_of (placed a b i c p ps (with_term i c ps)) j ≡ coefficient_of (p ∷ ps) j +ℤ only_at i c j
      by true b ea eb again =
          let less : i < p.term = ltb-true i p.term ea in
          unless_zero_at i c (p ∷ ps) j (past_first p ps i (λ x. absurd (omega arith)) ∙ absent_below (p.term + 1) high ps i h.3 (omega arith))
      by false true ea eb again =
          let same : i ≡ p.term = eqb-true i p.term eb in
          unless_zero_at i (c +ℤ p.coefficient) ps j (absent_below (p.term + 1) high ps i h.3 (omega arith)) ∙ met (nat_eq i j) refl same
      by false false ea eb again = at_p (with_term i c ps) (nat_eq p.term j) refl (eqb-false i p.term eb) again

-- ---- two sums added

sums_added_within : (low high : ℕ) (ps qs : List Summand) → IsSumWithin low high ps → IsSumWithin low high qs → IsSumWithin low high (sums_added ps qs)
sums_added_within low high [] qs a b = b
sums_added_within low high (p ∷ ps) qs a b =
    let l : low ≤ p.term = a.0 in
    with_term_sum high p.term p.coefficient a.1 low (sums_added ps qs) a.0 (sums_added_within low high ps qs (from_lower (p.term + 1) low high ps (omega arith) a.3) b)

pub sums_added_sum : (high : ℕ) (ps qs : List Summand) → IsSum high ps → IsSum high qs → IsSum high (sums_added ps qs)
sums_added_sum high ps qs a b = sums_added_within 0 high ps qs a b

pub first_at : (p : Summand) (ps : List Summand) (j : ℕ) → coefficient_of ps p.term ≡ pos 0 → coefficient_of (p ∷ ps) j ≡ coefficient_of ps j +ℤ only_at p.term p.coefficient j
first_at p ps j none = by (nat_eq p.term j) refl
  where
    by : (b : Bool) → nat_eq p.term j ≡ b → coefficient_of (p ∷ ps) j ≡ coefficient_of ps j +ℤ only_at p.term p.coefficient j
    by true t =
        let same : p.term ≡ j = eqb-true p.term j t in
        at_first p ps j same ∙ sym (none_plus p.coefficient) ∙ ap (λ z. z +ℤ p.coefficient) (sym (ap (coefficient_of ps) (sym same) ∙ none))
        ∙ ap (λ z. coefficient_of ps j +ℤ z) (sym (only_there p.term p.coefficient j same))
    by false f =
        let apart : p.term ≢ j = eqb-false p.term j f in
        past_first p ps j apart ∙ sym (plus_none (coefficient_of ps j)) ∙ ap (λ z. coefficient_of ps j +ℤ z) (sym (only_elsewhere p.term p.coefficient j apart))

sums_added_within_at : (low high : ℕ) (ps qs : List Summand) (j : ℕ) → IsSumWithin low high ps → IsSumWithin low high qs → coefficient_of (sums_added ps qs) j ≡ coefficient_of ps j +ℤ coefficient_of qs j
sums_added_within_at low high [] qs j a b = sym (none_plus (coefficient_of qs j))
sums_added_within_at low high (p ∷ ps) qs j a b =
    let l : low ≤ p.term = a.0 in
    let rest : IsSumWithin low high ps = from_lower (p.term + 1) low high ps (omega arith) a.3 in
    with_term_at high p.term p.coefficient a.1 low (sums_added ps qs) j (sums_added_within low high ps qs rest b)
    ∙ ap (λ z. z +ℤ only_at p.term p.coefficient j) (sums_added_within_at low high ps qs j rest b)
    ∙ swap (coefficient_of ps j) (coefficient_of qs j) (only_at p.term p.coefficient j)
    ∙ ap (λ z. z +ℤ coefficient_of qs j) (sym (first_at p ps j (absent_below (p.term + 1) high ps p.term a.3 (omega arith))))
  where
    swap : (x y z : ℤ) → (x +ℤ y) +ℤ z ≡ (x +ℤ z) +ℤ y
    swap x y z = omega (arith, ints)

pub sums_added_at : (high : ℕ) (ps qs : List Summand) (j : ℕ) → IsSum high ps → IsSum high qs → coefficient_of (sums_added ps qs) j ≡ coefficient_of ps j +ℤ coefficient_of qs j
sums_added_at high ps qs j a b = sums_added_within_at 0 high ps qs j a b

-- ---- a sum times a number

neg_not_zero : (n : ℕ) → 0 < n → neg_ℤ (pos n) ≢ pos 0
neg_not_zero zero h e = absurd (omega arith)
neg_not_zero (suc n) h e = cc

no_product_is_zero : (k c : ℤ) → k ≢ pos 0 → c ≢ pos 0 → k *ℤ c ≢ pos 0
no_product_is_zero (pos zero) c h l e = h refl
no_product_is_zero (pos (suc m)) (pos zero) h l e = l refl
no_product_is_zero (pos (suc m)) (pos (suc n)) h l e = let x : suc m * suc n ≡ 0 = ap unsigned_abs e in absurd (omega arith)
no_product_is_zero (pos (suc m)) (negsuc n) h l e = neg_not_zero (suc m * suc n) (omega arith) e
no_product_is_zero (negsuc m) (pos zero) h l e = l refl
no_product_is_zero (negsuc m) (pos (suc n)) h l e = neg_not_zero (suc m * suc n) (omega arith) e
no_product_is_zero (negsuc m) (negsuc n) h l e = let x : suc m * suc n ≡ 0 = ap unsigned_abs e in absurd (omega arith)

each_times_within : (low high : ℕ) (k : ℤ) (ps : List Summand) → k ≢ pos 0 → IsSumWithin low high ps → IsSumWithin low high (each_times k ps)
each_times_within low high k [] n h = tt
each_times_within low high k (p ∷ ps) n h = (h.0, h.1, no_product_is_zero k p.coefficient n h.2, each_times_within (p.term + 1) high k ps n h.3)

pub sum_times_sum : (high : ℕ) (k : ℤ) (ps : List Summand) → IsSum high ps → IsSum high (sum_times k ps)
sum_times_sum high (pos zero) ps h = tt
sum_times_sum high (pos (suc n)) ps h = each_times_within 0 high (pos (suc n)) ps (λ e. cc) h
sum_times_sum high (negsuc n) ps h = each_times_within 0 high (negsuc n) ps (λ e. cc) h

each_times_at : (k : ℤ) (ps : List Summand) (j : ℕ) → coefficient_of (each_times k ps) j ≡ k *ℤ coefficient_of ps j
each_times_at k [] j = sym (*ℤ-zero k)
each_times_at k (p ∷ ps) j = by (nat_eq p.term j) (each_times_at k ps j)
  where
    by : (b : Bool) → coefficient_of (each_times k ps) j ≡ k *ℤ coefficient_of ps j
        → (if b then k *ℤ p.coefficient else coefficient_of (each_times k ps) j) ≡ k *ℤ (if b then p.coefficient else coefficient_of ps j)
    by true e = refl
    by false e = e

pub sum_times_at : (k : ℤ) (ps : List Summand) (j : ℕ) → coefficient_of (sum_times k ps) j ≡ k *ℤ coefficient_of ps j
sum_times_at (pos zero) ps j = sym (zero-*ℤ (coefficient_of ps j))
sum_times_at (pos (suc n)) ps j = each_times_at (pos (suc n)) ps j
sum_times_at (negsuc n) ps j = each_times_at (negsuc n) ps j

-- ---- ranges

pub fits_in_range : (z : ℤ) → is_in_range z ≡ true → InRange z
fits_in_range z h = ltb-true (unsigned_abs z) (2 ^ 127) h

pub in_range_fits : (z : ℤ) → InRange z → is_in_range z ≡ true
in_range_fits z h = lt-ltb (unsigned_abs z) (2 ^ 127) h

pub coefficient_in_range : (ps : List Summand) (i : ℕ) → sum_fits ps ≡ true → InRange (coefficient_of ps i)
coefficient_in_range [] i h = lit< tt
coefficient_in_range (p ∷ ps) i h =
    by (nat_eq p.term i) (fits_in_range p.coefficient (and_left (is_in_range p.coefficient) (sum_fits ps) h)) (coefficient_in_range ps i (and_right (is_in_range p.coefficient) (sum_fits ps) h))
  where
    by : (b : Bool) → InRange p.coefficient → InRange (coefficient_of ps i) → InRange (if b then p.coefficient else coefficient_of ps i)
    by true x y = x
    by false x y = y

pub in_range_sum : (low high : ℕ) (ps : List Summand) → IsSumWithin low high ps → ((i : ℕ) → InRange (coefficient_of ps i)) → sum_fits ps ≡ true
in_range_sum low high [] h r = refl
in_range_sum low high (p ∷ ps) h r =
    and_both (is_in_range p.coefficient) (sum_fits ps) (in_range_fits p.coefficient (subst InRange (at_first p ps p.term refl) (r p.term))) (in_range_sum (p.term + 1) high ps h.3 (λ i. later i (order p.term i) (r i)))
  where
    later : (i : ℕ) → (p.term < i) ⊎ ((i < p.term) ⊎ (p.term ≡ i)) → InRange (coefficient_of (p ∷ ps) i) → InRange (coefficient_of ps i)
    later i (inl l) x = subst InRange (past_first p ps i (λ e. absurd (omega arith))) x
    later i (inr (inl l)) x = subst InRange (past_first p ps i (λ e. absurd (omega arith))) x
    later i (inr (inr e)) x = subst InRange (sym (absent_below (p.term + 1) high ps i h.3 (omega arith))) (lit< tt)
