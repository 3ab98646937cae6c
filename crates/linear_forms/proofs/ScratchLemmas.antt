-- The coefficients while sums are added to them, and taken out of them.
use Rattle.std.proofs.Common.{◌≡◌, ◌≢◌, ◌⊎◌, inl, inr, ℕ, zero, suc, ◌+◌, ◌<◌, ◌≤◌, Bool, true, false, nat_eq, List, [], ◌∷◌, ◌++◌, length, get_or, set, take, All, Contains, subst, sym, ap, ◌∙◌, arith, refl}
use Rattle.std.specs.Prelude.{ℤ, pos, negsuc, ◌+ℤ◌, ◌*ℤ◌, neg_ℤ}
use Rattle.std.specs.List.Sorted.{IsPermutation, IsNonDecreasing}
use Rattle.std.proofs.lemmas.Int.{ints}
use Rattle.std.proofs.lemmas.Bool.{eqb-true, eqb-false}
use Rattle.std.proofs.lemmas.List.{get_or-set_same, get_or-set_other, get_or_default, length-set, take_more, append-nil}
use Rattle.std.proofs.lemmas.List.Sorted.{Contains-permutation}
use Rattle.std.proofs.Math.IntN.{*ℤ-zero}
use Rattle.fraction128.specs.Whole.{InRange}
use Rattle.fraction128.proofs.Ring.{times-sum}
use Rattle.smt_meaning.specs.declared.clauses.Summand.{Summand}
use Rattle.smt_meaning.specs.Linear.{summand, unless_zero}
use Rattle.linear_forms.specs.declared.coefficients.Coefficient.{Coefficient}
use Rattle.linear_forms.specs.Sums.{coefficient_of, IsSumWithin, IsSum, signed}
use Rattle.linear_forms.specs.Scratch.{cell, at, AreRanged, AreZero, AreListed, AreTouched, HasCoefficients, LeavesRange, IsListedFrom, AreListedFrom, IsAdding, IsTakingOut, IsWiping}
use Rattle.linear_forms.proofs.SumLemmas.{order, only_at, only_there, only_elsewhere, plus_none, none_plus, at_first, past_first, absent_above, to_higher, same_sums, first_at}

-- ---- numbers

pub minus_one : (z : ℤ) → negsuc 0 *ℤ z ≡ neg_ℤ z
minus_one (pos n) = ap (λ m. neg_ℤ (pos m)) (omega arith)
minus_one (negsuc n) = ap pos (omega arith)

pub signed_plus : (s : Bool) (x y : ℤ) → signed s (x +ℤ y) ≡ signed s x +ℤ signed s y
signed_plus true x y = times-sum (negsuc 0) x y
signed_plus false x y = refl

pub signed_none_is : (s : Bool) → signed s (pos 0) ≡ pos 0
signed_none_is true = *ℤ-zero (negsuc 0)
signed_none_is false = refl

-- ---- a sum and its last summand

pushed_at : (low : ℕ) (xs : List Summand) (p : Summand) (i : ℕ) → IsSumWithin low p.term xs → coefficient_of (xs ++ p ∷ []) i ≡ coefficient_of xs i +ℤ only_at p.term p.coefficient i
pushed_at low [] p i h = first_at p [] i refl
pushed_at low (x ∷ xs) p i h = by (nat_eq x.term i) refl (pushed_at (x.term + 1) xs p i h.3)
  where
    by : (b : Bool) → nat_eq x.term i ≡ b → coefficient_of (xs ++ p ∷ []) i ≡ coefficient_of xs i +ℤ only_at p.term p.coefficient i
        → coefficient_of (x ∷ (xs ++ p ∷ [])) i ≡ coefficient_of (x ∷ xs) i +ℤ only_at p.term p.coefficient i
    by true t again =
        let same : x.term ≡ i = eqb-true x.term i t in
        let less : x.term < p.term = h.1 in
        at_first x (xs ++ p ∷ []) i same ∙ sym (plus_none x.coefficient) ∙ ap (λ z. z +ℤ pos 0) (sym (at_first x xs i same))
        ∙ ap (λ z. coefficient_of (x ∷ xs) i +ℤ z) (sym (only_elsewhere p.term p.coefficient i (λ e. absurd (omega arith))))
    by false f again =
        let apart : x.term ≢ i = eqb-false x.term i f in
        past_first x (xs ++ p ∷ []) i apart ∙ again ∙ ap (λ z. z +ℤ only_at p.term p.coefficient i) (sym (past_first x xs i apart))

pushed_sum : (low high : ℕ) (xs : List Summand) (p : Summand) → low ≤ p.term → p.term < high → p.coefficient ≢ pos 0 → IsSumWithin low p.term xs → IsSumWithin low high (xs ++ p ∷ [])
pushed_sum low high [] p l m n h = (l, m, n, tt)
pushed_sum low high (x ∷ xs) p l m n h =
    let less : x.term < p.term = h.1 in
    (h.0, omega arith, h.2, pushed_sum (x.term + 1) high xs p (omega arith) m n h.3)

-- a summand among others
pub record IsAmong (low high : ℕ) (ps : List Summand) (k : ℕ) (p : Summand) : Type 0 where
  pub before : IsSumWithin low p.term (take k ps)
  pub from : low ≤ p.term
  pub below : p.term < high
  pub here : coefficient_of ps p.term ≡ p.coefficient

pub among : (low high : ℕ) (ps : List Summand) (k : ℕ) (d : Summand) → IsSumWithin low high ps → k < length ps → IsAmong low high ps k (get_or ps k d)
among low high [] k d h l = absurd (omega arith)
among low high (q ∷ qs) zero d h l = record { before = tt; from = h.0; below = h.1; here = at_first q qs q.term refl }
among low high (q ∷ qs) (suc k) d h l =
    let r : IsAmong (q.term + 1) high qs k (get_or qs k d) = among (q.term + 1) high qs k d h.3 (omega arith) in
    let first : low ≤ q.term = h.0 in
    let from = r.from in
    record {
      before = (h.0, omega arith, h.2, r.before);
      from = omega arith;
      below = r.below;
      here = past_first q qs (get_or qs k d).term (λ e. absurd (omega arith)) ∙ r.here;
    }

-- ---- one coefficient written

write_same : (vs : List Coefficient) (p : ℕ) (z : ℤ) → p < length vs → at (set vs p (cell z)) p ≡ z
write_same vs p z h = ap (λ (c : Coefficient). c.value) (get_or-set_same vs p (cell z) (cell (pos 0)) h)

write_other : (vs : List Coefficient) (p : ℕ) (z : ℤ) (i : ℕ) → i ≢ p → at (set vs p (cell z)) i ≡ at vs i
write_other vs p z i h = ap (λ (c : Coefficient). c.value) (get_or-set_other vs p i (cell z) (cell (pos 0)) h)

written : (vs : List Coefficient) (p : ℕ) (c : ℤ) (s : Bool) (i : ℕ) → p < length vs → at (set vs p (cell (at vs p +ℤ signed s c))) i ≡ at vs i +ℤ signed s (only_at p c i)
written vs p c s i h = by (nat_eq p i) refl
  where
    by : (b : Bool) → nat_eq p i ≡ b → at (set vs p (cell (at vs p +ℤ signed s c))) i ≡ at vs i +ℤ signed s (only_at p c i)
    by true t =
        let same : p ≡ i = eqb-true p i t in
        ap (at (set vs p (cell (at vs p +ℤ signed s c)))) (sym same) ∙ write_same vs p (at vs p +ℤ signed s c) h ∙ ap (λ j. at vs j +ℤ signed s c) same
        ∙ ap (λ z. at vs i +ℤ signed s z) (sym (only_there p c i same))
    by false f =
        let apart : p ≢ i = eqb-false p i f in
        write_other vs p (at vs p +ℤ signed s c) i (λ e. apart (sym e)) ∙ sym (plus_none (at vs i)) ∙ ap (λ z. at vs i +ℤ z) (sym (signed_none_is s))
        ∙ ap (λ z. at vs i +ℤ signed s z) (sym (only_elsewhere p c i apart))

-- ---- a sum is added

module _ (s : Bool) (old : List Coefficient) (ps : List Summand) (is_sum : IsSum (length old) ps) where
  pub add_start : (is : List ℕ) → AreRanged old → AreTouched old is → IsAdding s old ps 0 old is
  add_start is r t = record { added = λ i. sym (ap (λ z. at old i +ℤ z) (signed_none_is s) ∙ plus_none (at old i)); ranged = r; touched = t; size = refl }

  module _ (k : ℕ) (vs : List Coefficient) (is : List ℕ) (a : IsAdding s old ps k vs is) (d : Summand) (more : k < length ps) where
    pub add_place : (get_or ps k d).term < length vs
    add_place = let r = among 0 (length old) ps k d is_sum more in let below = r.below in let size = a.size in omega arith

    before_here : at vs (get_or ps k d).term ≡ at old (get_or ps k d).term
    before_here =
        let p : Summand = get_or ps k d in
        let r = among 0 (length old) ps k d is_sum more in
        a.added p.term ∙ ap (λ z. at old p.term +ℤ signed s z) (absent_above 0 p.term (take k ps) p.term r.before (omega arith)) ∙ ap (λ z. at old p.term +ℤ z) (signed_none_is s) ∙ plus_none (at old p.term)

    pub add_step : (us : List Coefficient) (js : List ℕ) → us ≡ set vs (get_or ps k d).term (cell (at vs (get_or ps k d).term +ℤ signed s (get_or ps k d).coefficient)) → AreRanged us → AreTouched us js
        → IsAdding s old ps (k + 1) us js
    add_step us js e r t =
        let p : Summand = get_or ps k d in
        let q = among 0 (length old) ps k d is_sum more in
        record {
          added = λ i.
              ap (λ (xs : List Coefficient). at xs i) e ∙ written vs p.term p.coefficient s i add_place ∙ ap (λ z. z +ℤ signed s (only_at p.term p.coefficient i)) (a.added i)
              ∙ regroup (at old i) (signed s (coefficient_of (take k ps) i)) (signed s (only_at p.term p.coefficient i))
              ∙ ap (λ z. at old i +ℤ z) (sym (signed_plus s (coefficient_of (take k ps) i) (only_at p.term p.coefficient i)))
              ∙ ap (λ z. at old i +ℤ signed s z) (sym (pushed_at 0 (take k ps) p i q.before))
              ∙ ap (λ xs. at old i +ℤ signed s (coefficient_of xs i)) (sym (take_more ps k d more));
          ranged = r;
          touched = t;
          size = ap length e ∙ length-set vs p.term _ ∙ a.size;
        }
      where
        regroup : (x y z : ℤ) → (x +ℤ y) +ℤ z ≡ x +ℤ (y +ℤ z)
        regroup x y z = omega (arith, ints)

    pub add_fails : (InRange (at vs (get_or ps k d).term +ℤ signed s (get_or ps k d).coefficient) → ⊥) → LeavesRange s old ps
    add_fails out =
        let p : Summand = get_or ps k d in
        let q = among 0 (length old) ps k d is_sum more in
        record {
          place = p.term;
          outside = λ h. out (subst (λ z. InRange (z +ℤ signed s p.coefficient)) (sym before_here) (subst (λ z. InRange (at old p.term +ℤ signed s z)) q.here h));
        }

-- ---- coefficients are taken out

pub listed_from : (is : List ℕ) (vs : List Coefficient) → AreListed vs is → AreListedFrom is 0 vs
listed_from is vs h i n = let c : Contains is i = h i n in (c.0, omega arith, c.1, get_or_default is c.0 0 i c.1 ∙ c.2)

pub listed_after : (is js : List ℕ) (vs : List Coefficient) → IsPermutation is js → AreListed vs is → AreListed vs js
listed_after is js vs p h i n = Contains-permutation is js i p (h i n)

-- the place at the index set to 0
later_next : (is : List ℕ) (k : ℕ) (vs us : List Coefficient) → k < length is → get_or is k 0 < length vs → us ≡ set vs (get_or is k 0) (cell (pos 0)) → AreListedFrom is k vs → AreListedFrom is (k + 1) us
later_next is k vs us more inside e h i n =
    let p : ℕ = get_or is k 0 in
    let apart : i ≢ p = λ same. n (ap (at us) same ∙ ap (λ (xs : List Coefficient). at xs p) e ∙ write_same vs p (pos 0) inside) in
    let still : at vs i ≢ pos 0 = λ z. n (ap (λ (xs : List Coefficient). at xs i) e ∙ write_other vs p (pos 0) i apart ∙ z) in
    let l : IsListedFrom is k i = h i still in
    (l.0, by l (order k l.0), l.2, l.3)
  where
    by : (l : IsListedFrom is k i) → (k < l.0) ⊎ ((l.0 < k) ⊎ (k ≡ l.0)) → k + 1 ≤ l.0
    by l (inl less) = omega arith
    by l (inr (inl more')) = let a = l.1 in absurd (omega arith)
    by l (inr (inr same)) =
        let here : i ≡ get_or is k 0 = sym l.3 ∙ ap (λ j. get_or is j 0) (sym same) in
        absurd (n (ap (at us) here ∙ ap (λ (xs : List Coefficient). at xs (get_or is k 0)) e ∙ write_same vs (get_or is k 0) (pos 0) inside))

not_zero_or : (z : ℤ) → (z ≡ pos 0) ⊎ (z ≢ pos 0)
not_zero_or (pos zero) = inl refl
not_zero_or (pos (suc n)) = inr (λ e. cc)
not_zero_or (negsuc n) = inr (λ e. cc)

none_listed : (is : List ℕ) (vs : List Coefficient) → AreListedFrom is (length is) vs → AreZero vs
none_listed is vs h i = by (not_zero_or (at vs i))
  where
    by : (at vs i ≡ pos 0) ⊎ (at vs i ≢ pos 0) → at vs i ≡ pos 0
    by (inl e) = e
    by (inr n) = let l : IsListedFrom is (length is) i = h i n in let a = l.1 in let b = l.2 in absurd (omega arith)

module _ (old : List Coefficient) (is : List ℕ) (within : All (λ i. i < length old) is) (rising : IsNonDecreasing is) where
  pub take_start : AreListed old is → (sum : List Summand) → sum ≡ [] → IsTakingOut old is 0 old sum
  take_start h sum e = record {
    bound = 0;
    is_sum = subst (IsSum 0) (sym e) tt;
    parted = λ i. ap (λ xs. coefficient_of xs i +ℤ at old i) e ∙ none_plus (at old i);
    later = listed_from is old h;
    above = λ i n. omega arith;
    size = refl;
  }

  module _ (k : ℕ) (vs : List Coefficient) (sum : List Summand) (t : IsTakingOut old is k vs sum) (more : k < length is) where
    pub take_place : get_or is k 0 < length vs
    take_place = let a : get_or is k 0 < length old = within k 0 more in let size = t.size in omega arith

    module _ (us : List Coefficient) (e : us ≡ set vs (get_or is k 0) (cell (pos 0))) where
      at_other : (i : ℕ) → i ≢ get_or is k 0 → at us i ≡ at vs i
      at_other i apart = ap (λ (xs : List Coefficient). at xs i) e ∙ write_other vs (get_or is k 0) (pos 0) i apart

      at_here : at us (get_or is k 0) ≡ pos 0
      at_here = ap (λ (xs : List Coefficient). at xs (get_or is k 0)) e ∙ write_same vs (get_or is k 0) (pos 0) take_place

      is_apart : (i : ℕ) → at us i ≢ pos 0 → i ≢ get_or is k 0
      is_apart i n same = n (ap (at us) same ∙ at_here)

      still_there : (i : ℕ) → at us i ≢ pos 0 → at vs i ≢ pos 0
      still_there i n z = n (at_other i (is_apart i n) ∙ z)

      size_kept : length us ≡ length old
      size_kept = ap length e ∙ length-set vs (get_or is k 0) _ ∙ t.size

      nothing_there : at vs (get_or is k 0) ≡ pos 0 → IsTakingOut old is (k + 1) us sum
      nothing_there z = record {
        bound = t.bound;
        is_sum = t.is_sum;
        parted = λ i. ap (λ x. coefficient_of sum i +ℤ x) (same i (order i (get_or is k 0))) ∙ t.parted i;
        later = later_next is k vs us more take_place e t.later;
        above = λ i n. t.above i (still_there i n);
        size = size_kept;
      }
        where
          same : (i : ℕ) → (i < get_or is k 0) ⊎ ((get_or is k 0 < i) ⊎ (i ≡ get_or is k 0)) → at us i ≡ at vs i
          same i (inl l) = at_other i (λ x. absurd (omega arith))
          same i (inr (inl l)) = at_other i (λ x. absurd (omega arith))
          same i (inr (inr x)) = ap (at us) x ∙ at_here ∙ sym z ∙ ap (at vs) (sym x)

      one_there : at vs (get_or is k 0) ≢ pos 0 → IsTakingOut old is (k + 1) us (sum ++ summand (get_or is k 0) (at vs (get_or is k 0)) ∷ [])
      one_there n =
          let p : ℕ = get_or is k 0 in
          let c : ℤ = at vs p in
          let b : t.bound ≤ p = t.above p n in
          let before : IsSum p sum = to_higher 0 t.bound p sum b t.is_sum in
          record {
            bound = p + 1;
            is_sum = pushed_sum 0 (p + 1) sum (summand p c) (omega arith) (omega arith) n before;
            parted = λ i. ap (λ x. x +ℤ at us i) (pushed_at 0 sum (summand p c) i before) ∙ parts i (order i p) ∙ t.parted i;
            later = later_next is k vs us more take_place e t.later;
            above = λ i m. beyond i (is_apart i m) (t.later i (still_there i m));
            size = size_kept;
          }
        where
          elsewhere : (i : ℕ) → i ≢ get_or is k 0 → (coefficient_of sum i +ℤ only_at (get_or is k 0) (at vs (get_or is k 0)) i) +ℤ at us i ≡ coefficient_of sum i +ℤ at vs i
          elsewhere i apart =
              ap (λ x. (coefficient_of sum i +ℤ x) +ℤ at us i) (only_elsewhere (get_or is k 0) (at vs (get_or is k 0)) i (λ x. apart (sym x))) ∙ ap (λ x. x +ℤ at us i) (plus_none (coefficient_of sum i))
              ∙ ap (λ x. coefficient_of sum i +ℤ x) (at_other i apart)

          parts : (i : ℕ) → (i < get_or is k 0) ⊎ ((get_or is k 0 < i) ⊎ (i ≡ get_or is k 0))
              → (coefficient_of sum i +ℤ only_at (get_or is k 0) (at vs (get_or is k 0)) i) +ℤ at us i ≡ coefficient_of sum i +ℤ at vs i
          parts i (inl l) = elsewhere i (λ x. absurd (omega arith))
          parts i (inr (inl l)) = elsewhere i (λ x. absurd (omega arith))
          parts i (inr (inr x)) =
              ap (λ y. (coefficient_of sum i +ℤ y) +ℤ at us i) (only_there (get_or is k 0) (at vs (get_or is k 0)) i (sym x)) ∙ ap (λ y. (coefficient_of sum i +ℤ at vs (get_or is k 0)) +ℤ y) (ap (at us) x ∙ at_here)
              ∙ plus_none (coefficient_of sum i +ℤ at vs (get_or is k 0)) ∙ ap (λ j. coefficient_of sum i +ℤ at vs j) (sym x)

          beyond : (i : ℕ) → i ≢ get_or is k 0 → IsListedFrom is k i → get_or is k 0 + 1 ≤ i
          beyond i apart l =
              let a : get_or is k 0 ≤ get_or is l.0 0 = rising k l.0 0 l.1 l.2 in
              let b : get_or is l.0 0 ≡ i = l.3 in
              omega arith

      pub take_step : (out : List Summand) → out ≡ sum ++ unless_zero (get_or is k 0) (at vs (get_or is k 0)) [] → IsTakingOut old is (k + 1) us out
      take_step out f = subst (IsTakingOut old is (k + 1) us) (sym f) (by (at vs (get_or is k 0)) refl)
        where
          by : (z : ℤ) → at vs (get_or is k 0) ≡ z → IsTakingOut old is (k + 1) us (sum ++ unless_zero (get_or is k 0) z [])
          by (pos zero) z = subst (IsTakingOut old is (k + 1) us) (sym (append-nil sum)) (nothing_there z)
          by (pos (suc m)) z = subst (λ x. IsTakingOut old is (k + 1) us (sum ++ summand (get_or is k 0) x ∷ [])) z (one_there (λ x. let y : pos (suc m) ≡ pos 0 = sym z ∙ x in cc))
          by (negsuc m) z = subst (λ x. IsTakingOut old is (k + 1) us (sum ++ summand (get_or is k 0) x ∷ [])) z (one_there (λ x. let y : negsuc m ≡ pos 0 = sym z ∙ x in cc))

  pub take_end : (vs : List Coefficient) (sum : List Summand) → IsTakingOut old is (length is) vs sum → (ps : List Summand) → IsSum (length old) ps → HasCoefficients old ps → sum ≡ ps
  take_end vs sum t ps h c =
      let top : ℕ = t.bound + length old in
      same_sums 0 top sum ps (to_higher 0 t.bound top sum (omega arith) t.is_sum) (to_higher 0 (length old) top ps (omega arith) h)
      (λ i. sym (plus_none (coefficient_of sum i)) ∙ ap (λ x. coefficient_of sum i +ℤ x) (sym (none_listed is vs t.later i)) ∙ t.parted i ∙ c i)

-- ---- coefficients are set to 0

pub wipe_step : (is : List ℕ) (k size : ℕ) (vs us : List Coefficient) → All (λ i. i < size) is → IsWiping is k size vs → k < length is → us ≡ set vs (get_or is k 0) (cell (pos 0)) → IsWiping is (k + 1) size us
wipe_step is k size vs us within w more e =
    let a : get_or is k 0 < size = within k 0 more in
    let b = w.size in
    record { later = later_next is k vs us more (omega arith) e w.later; size = ap length e ∙ length-set vs (get_or is k 0) _ ∙ w.size }

pub wipe_end : (is : List ℕ) (size : ℕ) (vs : List Coefficient) → IsWiping is (length is) size vs → AreZero vs
wipe_end is size vs w = none_listed is vs w.later

-- ---- the list of places still has them all

pub listed_back : (is : List ℕ) (k i : ℕ) → IsListedFrom is k i → Contains is i
listed_back is k i l = (l.0, l.2, get_or_default is l.0 i 0 l.2 ∙ l.3)

pub touched_back : (old : List Coefficient) (is : List ℕ) (k : ℕ) (vs : List Coefficient) (sum : List Summand) → All (λ i. i < length old) is → IsTakingOut old is k vs sum → AreTouched vs is
touched_back old is k vs sum within t = record { within = subst (λ n. All (λ i. i < n) is) (sym t.size) within; listed = λ i n. listed_back is k i (t.later i n) }

pub touched_after : (old : List Coefficient) (is : List ℕ) (k : ℕ) (vs us : List Coefficient) (sum : List Summand) → All (λ i. i < length old) is → IsTakingOut old is k vs sum → k < length is
    → us ≡ set vs (get_or is k 0) (cell (pos 0)) → AreTouched us is
touched_after old is k vs us sum within t more e = record {
  within = subst (λ n. All (λ i. i < n) is) (sym (ap length e ∙ length-set vs (get_or is k 0) _ ∙ t.size)) within;
  listed = λ i n.
      let size = t.size in
      let inside : get_or is k 0 < length old = within k 0 more in
      listed_back is (k + 1) i (later_next is k vs us more (omega arith) e t.later i n);
}
