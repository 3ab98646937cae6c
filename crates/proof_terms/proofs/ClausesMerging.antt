-- Two ascending lists become one, code by code.
use Rattle.std.proofs.Common.{◌≡◌, ◌≢◌, ℕ, ◌+◌, ◌<◌, ◌≤◌, List, [], ◌∷◌, ◌++◌, length, get_or, sym, ap, subst, ◌∙◌, inl, inr, arith}
use Rattle.std.specs.Prelude.{Contains, ◌⊎◌}
use Rattle.std.proofs.lemmas.Bool.{cases_lt, cases_eq}
use Rattle.std.proofs.lemmas.List.{get_or_default}
use Rattle.std.proofs.lemmas.List.Elements.{Contains-get_or, Contains-append_left, Contains-push, Contains-push_cases}
use Rattle.std.proofs.lemmas.List.Quantifiers.{all_pairs_push}
use Rattle.proof_terms.specs.Kept.{AreAscending}
use Rattle.proof_terms.specs.ClausesMerged.{IsResolvent, IsMergedTo, IsPushedUnless}

pub nothing_merged : (left right : List ℕ) (code negation : ℕ) → IsMergedTo left right code negation 0 0 []
nothing_merged left right code negation = record {
  left_within = omega arith;
  right_within = omega arith;
  ascending = λ i j d h less. let few : j < 0 = less in absurd (omega arith);
  below_left = λ c k h above less. let few : h.0 < 0 = h.1 in absurd (omega arith);
  below_right = λ c k h above less. let few : h.0 < 0 = h.1 in absurd (omega arith);
  from_left = λ k h other. absurd (omega arith);
  from_right = λ k h other. absurd (omega arith);
  only = λ c h. let few : h.0 < 0 = h.1 in absurd (omega arith);
}

exchanged : (left right : List ℕ) (code negation i j : ℕ) (out : List ℕ) → IsMergedTo left right code negation i j out → IsMergedTo right left negation code j i out
exchanged left right code negation i j out p = record {
  left_within = p.right_within;
  right_within = p.left_within;
  ascending = p.ascending;
  below_left = p.below_right;
  below_right = p.below_left;
  from_left = p.from_right;
  from_right = p.from_left;
  only = λ c h. by c (p.only c h);
}
  where
    by : (c : ℕ) → (Contains left c × (c ≢ code)) ⊎ (Contains right c × (c ≢ negation)) → (Contains right c × (c ≢ negation)) ⊎ (Contains left c × (c ≢ code))
    by c (inl h) = inr h
    by c (inr h) = inl h

-- what ascends at two places
rises : (xs : List ℕ) (i k : ℕ) → AreAscending xs → i ≤ k → k < length xs → get_or xs i 0 ≤ get_or xs k 0
rises xs i k up h less = by (cases_lt i k)
  where
    by : (i < k) ⊎ (k ≤ i) → get_or xs i 0 ≤ get_or xs k 0
    by (inl below) = let r : get_or xs i 0 < get_or xs k 0 = up i k 0 below less in omega arith
    by (inr above) = let same : i ≡ k = omega arith in subst (λ n. get_or xs i 0 ≤ get_or xs n 0) same (omega arith)

module _ (left right : List ℕ) (code negation i j : ℕ) (up : AreAscending left) (out : List ℕ) (p : IsMergedTo left right code negation i j out) (here : i < length left) where
  -- the code at the left place is left out
  skip_left : get_or left i 0 ≡ code → IsMergedTo left right code negation (i + 1) j out
  skip_left e = record {
    left_within = omega arith;
    right_within = p.right_within;
    ascending = p.ascending;
    below_left = λ c k h above less. p.below_left c k h (omega arith) less;
    below_right = p.below_right;
    from_left = λ k h other. by k other (cases_lt k i) h;
    from_right = p.from_right;
    only = p.only;
  }
    where
      by : (k : ℕ) → get_or left k 0 ≢ code → (k < i) ⊎ (i ≤ k) → k < i + 1 → Contains out (get_or left k 0)
      by k other (inl below) h = p.from_left k below other
      by k other (inr from) h = let same : k ≡ i = omega arith in absurd (other (ap (λ n. get_or left n 0) same ∙ e))

  pushed_ascend : AreAscending (out ++ get_or left i 0 ∷ [])
  pushed_ascend = all_pairs_push (λ (a b : ℕ). a < b) out (get_or left i 0) p.ascending (λ k d h. p.below_left (get_or out k d) i (Contains-get_or out k d h) (omega arith) here)

  pushed_below_left : (c k : ℕ) → Contains (out ++ get_or left i 0 ∷ []) c → i + 1 ≤ k → k < length left → c < get_or left k 0
  pushed_below_left c k h above less = by (Contains-push_cases out (get_or left i 0) c h)
    where
      by : Contains out c ⊎ (get_or left i 0 ≡ c) → c < get_or left k 0
      by (inl old) = p.below_left c k old (omega arith) less
      by (inr e) = let r : get_or left i 0 < get_or left k 0 = up i k 0 (omega arith) less in omega arith

  pushed_from_left : (k : ℕ) → k < i + 1 → get_or left k 0 ≢ code → Contains (out ++ get_or left i 0 ∷ []) (get_or left k 0)
  pushed_from_left k h other = by (cases_lt k i)
    where
      by : (k < i) ⊎ (i ≤ k) → Contains (out ++ get_or left i 0 ∷ []) (get_or left k 0)
      by (inl below) = Contains-append_left out (get_or left i 0 ∷ []) (get_or left k 0) (p.from_left k below other)
      by (inr from) = let same : i ≡ k = omega arith in subst (λ n. Contains (out ++ get_or left i 0 ∷ []) (get_or left n 0)) same (Contains-push out (get_or left i 0))

  pushed_only : (c : ℕ) → (Contains left (get_or left i 0) × (get_or left i 0 ≢ code)) ⊎ (Contains right (get_or left i 0) × (get_or left i 0 ≢ negation))
      → Contains (out ++ get_or left i 0 ∷ []) c → (Contains left c × (c ≢ code)) ⊎ (Contains right c × (c ≢ negation))
  pushed_only c new h = by (Contains-push_cases out (get_or left i 0) c h)
    where
      by : Contains out c ⊎ (get_or left i 0 ≡ c) → (Contains left c × (c ≢ code)) ⊎ (Contains right c × (c ≢ negation))
      by (inl old) = p.only c old
      by (inr e) = subst (λ n. (Contains left n × (n ≢ code)) ⊎ (Contains right n × (n ≢ negation))) e new

  push_left : AreAscending right → get_or left i 0 ≢ code → (j < length right → get_or left i 0 < get_or right j 0) → IsMergedTo left right code negation (i + 1) j (out ++ get_or left i 0 ∷ [])
  push_left up_right other first = record {
    left_within = omega arith;
    right_within = p.right_within;
    ascending = pushed_ascend;
    below_left = pushed_below_left;
    below_right = λ c k h above less. below c k above less (Contains-push_cases out (get_or left i 0) c h);
    from_left = pushed_from_left;
    from_right = λ k h o. Contains-append_left out (get_or left i 0 ∷ []) (get_or right k 0) (p.from_right k h o);
    only = λ c h. pushed_only c (inl (Contains-get_or left i 0 here, other)) h;
  }
    where
      below : (c k : ℕ) → j ≤ k → k < length right → Contains out c ⊎ (get_or left i 0 ≡ c) → c < get_or right k 0
      below c k above less (inl old) = p.below_right c k old above less
      below c k above less (inr e) = let f : get_or left i 0 < get_or right j 0 = first (omega arith) in let r = rises right j k up_right above less in omega arith

  push_both : AreAscending right → j < length right → get_or left i 0 ≡ get_or right j 0 → code ≢ negation → IsMergedTo left right code negation (i + 1) (j + 1) (out ++ get_or left i 0 ∷ [])
  push_both up_right there same different = record {
    left_within = omega arith;
    right_within = omega arith;
    ascending = pushed_ascend;
    below_left = pushed_below_left;
    below_right = λ c k h above less. below c k above less (Contains-push_cases out (get_or left i 0) c h);
    from_left = pushed_from_left;
    from_right = λ k h o. from k h o (cases_lt k j);
    only = λ c h. pushed_only c (which (cases_eq (get_or left i 0) code)) h;
  }
    where
      below : (c k : ℕ) → j + 1 ≤ k → k < length right → Contains out c ⊎ (get_or left i 0 ≡ c) → c < get_or right k 0
      below c k above less (inl old) = p.below_right c k old (omega arith) less
      below c k above less (inr e) = let r : get_or right j 0 < get_or right k 0 = up_right j k 0 (omega arith) less in omega arith

      from : (k : ℕ) → k < j + 1 → get_or right k 0 ≢ negation → (k < j) ⊎ (j ≤ k) → Contains (out ++ get_or left i 0 ∷ []) (get_or right k 0)
      from k h o (inl earlier) = Contains-append_left out (get_or left i 0 ∷ []) (get_or right k 0) (p.from_right k earlier o)
      from k h o (inr late) =
          let at : j ≡ k = omega arith in
          subst (λ n. Contains (out ++ get_or left i 0 ∷ []) n) (same ∙ ap (λ n. get_or right n 0) at) (Contains-push out (get_or left i 0))

      which : (get_or left i 0 ≡ code) ⊎ (get_or left i 0 ≡ code → ⊥) → (Contains left (get_or left i 0) × (get_or left i 0 ≢ code)) ⊎ (Contains right (get_or left i 0) × (get_or left i 0 ≢ negation))
      which (inr other) = inl (Contains-get_or left i 0 here, other)
      which (inl e) = inr (subst (λ n. Contains right n) (sym same) (Contains-get_or right j 0 there), λ f. different (sym e ∙ f))

-- ---- steps

pub step_left : (left right : List ℕ) (code negation i j : ℕ) (out new : List ℕ) → AreAscending left → AreAscending right → IsMergedTo left right code negation i j out
    → (i < length left) × (j < length right → get_or left i 0 < get_or right j 0) → IsPushedUnless out new (get_or left i 0) code → IsMergedTo left right code negation (i + 1) j new
step_left left right code negation i j out new up up_right p next (inl (e, f)) = subst (λ (xs : List ℕ). IsMergedTo left right code negation (i + 1) j xs) (sym f) (skip_left left right code negation i j up out p next.0 e)
step_left left right code negation i j out new up up_right p next (inr (o, f)) = subst (λ (xs : List ℕ). IsMergedTo left right code negation (i + 1) j xs) (sym f) (push_left left right code negation i j up out p next.0 up_right o next.1)

pub step_right : (left right : List ℕ) (code negation i j : ℕ) (out new : List ℕ) → AreAscending left → AreAscending right → IsMergedTo left right code negation i j out
    → (j < length right) × (i < length left → get_or right j 0 < get_or left i 0) → IsPushedUnless out new (get_or right j 0) negation → IsMergedTo left right code negation i (j + 1) new
step_right left right code negation i j out new up up_right p next pushed =
    exchanged right left negation code (j + 1) i new (step_left right left negation code j i out new up_right up (exchanged left right code negation i j out p) next pushed)

pub step_both : (left right : List ℕ) (code negation i j : ℕ) (out new : List ℕ) → AreAscending left → AreAscending right → code ≢ negation → IsMergedTo left right code negation i j out
    → (i < length left) × (j < length right) × (get_or left i 0 ≡ get_or right j 0) → new ≡ out ++ get_or left i 0 ∷ [] → IsMergedTo left right code negation (i + 1) (j + 1) new
step_both left right code negation i j out new up up_right different p next f =
    subst (λ (xs : List ℕ). IsMergedTo left right code negation (i + 1) (j + 1) xs) (sym f) (push_both left right code negation i j up out p next.0 up_right next.1 next.2 different)

from_whole : (xs out : List ℕ) (n without : ℕ) → length xs ≤ n → ((k : ℕ) → k < n → get_or xs k 0 ≢ without → Contains out (get_or xs k 0)) → (c : ℕ) → Contains xs c → c ≢ without → Contains out c
from_whole xs out n without whole from c (k, h, e) other =
    let read : get_or xs k 0 ≡ c = get_or_default xs k 0 c h ∙ e in
    subst (λ x. Contains out x) read (from k (omega arith) (λ f. other (sym read ∙ f)))

pub all_merged : (left right : List ℕ) (code negation i j : ℕ) (out : List ℕ) → IsMergedTo left right code negation i j out → length left ≤ i → length right ≤ j → IsResolvent left right code negation out
all_merged left right code negation i j out p whole_left whole_right = record {
  ascending = p.ascending;
  from_left = from_whole left out i code whole_left p.from_left;
  from_right = from_whole right out j negation whole_right p.from_right;
  only = p.only;
}
