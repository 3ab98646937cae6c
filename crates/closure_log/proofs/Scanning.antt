-- Where literals stand in a log.
use Rattle.std.proofs.Common.{◌≡◌, ◌≢◌, ℕ, ◌<◌, ◌≤◌, ◌⊎◌, Bool, true, false, not, List, [], ◌∷◌, ◌++◌, length, take, min, Contains, refl, sym, ap, ◌∙◌, subst, inl, inr, arith}
use Rattle.std.specs.Prelude.{zero, suc, ◌-◌, replicate, slice_index_or, slice_set, Option, Some, None, IfNone}
use Rattle.std.proofs.lemmas.Bool.{cases_lt}
use Rattle.std.proofs.lemmas.List.{length-take, length_push, get_or_append_left, get_or_push, get_or-take, get_or_default, get_or_past, get_or-append_right, get_or-set_same, get_or-set_other}
use Rattle.literals.specs.Signed.{Signed, opposite}
use Rattle.search_port.specs.State.{IsOpenIn}
use Rattle.closure_log.specs.Places.{ArePlaces}

-- ---- open atoms

none_past : (log : List Signed) (places : List ℕ) (a : ℕ) → ArePlaces log places → length log ≤ slice_index_or places a 0 → (m : Signed) → m.atom ≡ a → Contains log m → ⊥
none_past log places a h past m e c =
    let here : slice_index_or places a 0 ≡ c.0 = subst (λ n. slice_index_or places n 0 ≡ c.0) e (h.at c.0 m c.1 c.2) in
    let less : c.0 < length log = c.1 in
    omega arith

none_other : (log : List Signed) (places : List ℕ) (a p : ℕ) (o : Signed) → ArePlaces log places → slice_index_or places a 0 ≡ p → p < length log → slice_index_or log p o ≡ o → o.atom ≢ a
    → (m : Signed) → m.atom ≡ a → Contains log m → ⊥
none_other log places a p o h at less is other m e c =
    let here : p ≡ c.0 = sym at ∙ subst (λ n. slice_index_or places n 0 ≡ c.0) e (h.at c.0 m c.1 c.2) in
    let there : slice_index_or log p m ≡ m = subst (λ k. slice_index_or log k m ≡ m) (sym here) c.2 in
    other (ap (λ (x : Signed). x.atom) (sym is ∙ get_or_default log p o m less ∙ there) ∙ e)

-- an atom whose place is past the log
pub open_past : (log : List Signed) (places : List ℕ) (a : ℕ) → ArePlaces log places → length log ≤ slice_index_or places a 0 → (l : Signed) → l.atom ≡ a → IsOpenIn log l
open_past log places a h past l e = (none_past log places a h past l e, none_past log places a h past (opposite l) e)

-- an atom at whose place another one stands
pub open_other : (log : List Signed) (places : List ℕ) (a p : ℕ) (o : Signed) → ArePlaces log places → slice_index_or places a 0 ≡ p → p < length log → slice_index_or log p o ≡ o → o.atom ≢ a
    → (l : Signed) → l.atom ≡ a → IsOpenIn log l
open_other log places a p o h at less is other l e =
    (none_other log places a p o h at less is other l e, none_other log places a p o h at less is other (opposite l) e)

-- ---- logs that change

pub same_or_not : (b d : Bool) → (b ≡ d) ⊎ (b ≡ not d)
same_or_not true true = inl refl
same_or_not true false = inr refl
same_or_not false true = inr refl
same_or_not false false = inl refl

pub same_signed : (l m : Signed) → l.atom ≡ m.atom → l.positive ≡ m.positive → l ≡ m
same_signed l m e f = ap (λ n. let x : Signed = record { atom = n; positive = l.positive } in x) e ∙ ap (λ (b : Bool). let x : Signed = record { atom = m.atom; positive = b } in x) f

-- what stands in the log has another atom than what is open
apart : (log : List Signed) (l m : Signed) → IsOpenIn log l → Contains log m → m.atom ≢ l.atom
apart log l m is_open c e = elim (same_or_not m.positive l.positive) [
  | inl same ↦ is_open.0 (subst (Contains log) (same_signed m l e same) c)
  | inr other ↦ is_open.1 (subst (Contains log) (same_signed m (opposite l) e other) c)
]

noted_before : (log : List Signed) (places : List ℕ) (l : Signed) (p j : ℕ) (m : Signed) → ArePlaces log places → IsOpenIn log l → j < length log → slice_index_or log j m ≡ m
    → slice_index_or (slice_set places l.atom p) m.atom 0 ≡ j
noted_before log places l p j m h is_open less is = get_or-set_other places l.atom m.atom p 0 (apart log l m is_open (j, less, is)) ∙ h.at j m less is

pub noted_push : (log : List Signed) (places : List ℕ) (l : Signed) (p : ℕ) → ArePlaces log places → IsOpenIn log l → l.atom < length places → p ≡ length log → ArePlaces (log ++ l ∷ []) (slice_set places l.atom p)
noted_push log places l p h is_open within last = record {
  at = λ j m less is. elim (cases_lt j (length log)) [
    | inl before ↦ noted_before log places l p j m h is_open before (sym (get_or_append_left log (l ∷ []) m j before) ∙ is)
    | inr past ↦
        let end : length log ≡ j = omega (arith, length_push log l) in
        let new : l ≡ m = sym (get_or_push log l m j end) ∙ is in
        subst (λ (x : Signed). slice_index_or (slice_set places l.atom p) x.atom 0 ≡ j) new (get_or-set_same places l.atom p 0 within ∙ last ∙ end)
  ];
}

pub noted_same : (log : List Signed) (places : List ℕ) (l : Signed) (p : ℕ) → ArePlaces log places → IsOpenIn log l → ArePlaces log (slice_set places l.atom p)
noted_same log places l p h is_open = record { at = λ j m less is. noted_before log places l p j m h is_open less is }

pub places_taken : (log : List Signed) (places : List ℕ) (n : ℕ) → ArePlaces log places → ArePlaces (take n log) places
places_taken log places n h = record {
  at = λ j m less is.
      let size : length (take n log) ≡ min n (length log) = length-take n log in
      let below : j < n = omega arith in
      h.at j m (omega arith) (sym (get_or-take n log j m below) ∙ is);
}

pub places_of_none : (places : List ℕ) → ArePlaces [] places
places_of_none places = record { at = λ j m less is. absurd (omega arith) }

zero_at : (n k : ℕ) → slice_index_or (replicate n zero) k zero ≡ zero
zero_at zero k = refl
zero_at (suc n) zero = refl
zero_at (suc n) (suc k) = zero_at n k

same_with_zeros : (places : List ℕ) (more a : ℕ) → slice_index_or (places ++ replicate more zero) a zero ≡ slice_index_or places a zero
same_with_zeros places more a = elim (cases_lt a (length places)) [
  | inl before ↦ get_or_append_left places (replicate more zero) zero a before
  | inr past ↦ get_or-append_right places (replicate more zero) (length places) a zero refl past ∙ zero_at more (a - length places) ∙ sym (get_or_past places a zero past)
]

-- zeros at the end change no place
pub places_grown : (log : List Signed) (places : List ℕ) (more : ℕ) → ArePlaces log places → ArePlaces log (places ++ replicate more zero)
places_grown log places more h = record { at = λ j m less is. same_with_zeros places more m.atom ∙ h.at j m less is }

pub where_none : {A P : Type 0} (o : Option A) → o ≡ None → IfNone o P → P
where_none None e h = h
where_none (Some a) e h = absurd cc
