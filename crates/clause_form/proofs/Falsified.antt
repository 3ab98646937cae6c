-- Truth values at which a clause without both signs of a place is false, the places that it leaves open as one likes.
use Rattle.std.proofs.Common.{◌≡◌, ℕ, List, [], ◌∷◌, map, refl, sym, ◌∙◌, ap, subst, Bool, true, false, not, ◌&&◌, ◌||◌, ◌⊎◌, inl, inr}
use Rattle.std.specs.Prelude.{if◌then◌else◌}
use Rattle.smt_meaning.specs.Term.{bool_eq}
use Rattle.smt_meaning.specs.Forced.{Sign}
use Rattle.smt_meaning.specs.Forced.{some_sign_true}
use Rattle.clause_form.specs.Signs.{sign, yes, no, negated, sign_true, sign_eq, is_sign_in, once, clashes}
use Rattle.clause_form.proofs.Signs.{true_or_false, and_left, and_right, or_false_left, or_false_right, sign_eq-true, in_first, in_rest, in_cases, twice, negated_true}
use Rattle.clause_form.proofs.TrueClauses.{IsMet, each_true, some_cons}
use Rattle.clause_form.proofs.Hits.{is_once, in_other, not_itself, from_not}

abbrev pub NoClash : List Sign → Type 0
NoClash ss = (p : Sign) → is_sign_in p ss ≡ true → is_sign_in (negated p) ss ≡ true → ⊥

pub no_both : {X : Type 0} (b : Bool) → b ≡ true → b ≡ false → X
no_both true h k = absurd (let e : true ≡ false = k in cc)
no_both false h k = absurd (let e : false ≡ true = h in cc)

pub false_if : (b : Bool) → (b ≡ true → ⊥) → b ≡ false
false_if true h = absurd (h refl)
false_if false h = refl

abbrev pub assigned : List Sign → (ℕ → Bool) → ℕ → Bool
assigned ss d i = if is_sign_in (no i) ss then true else (if is_sign_in (yes i) ss then false else d i)

pub value_no : (ss : List Sign) (d : ℕ → Bool) (i : ℕ) → is_sign_in (no i) ss ≡ true → assigned ss d i ≡ true
value_no ss d i h = ap (λ b. if b then true else (if is_sign_in (yes i) ss then false else d i)) h

pub value_yes : (ss : List Sign) (d : ℕ → Bool) (i : ℕ) → NoClash ss → is_sign_in (yes i) ss ≡ true → assigned ss d i ≡ false
value_yes ss d i nc h =
    ap (λ b. if b then true else (if is_sign_in (yes i) ss then false else d i)) (false_if (is_sign_in (no i) ss) (nc (yes i) h))
    ∙ ap (λ b. if b then false else d i) h

pub value_free : (ss : List Sign) (d : ℕ → Bool) (i : ℕ) → is_sign_in (yes i) ss ≡ false → is_sign_in (no i) ss ≡ false → assigned ss d i ≡ d i
value_free ss d i h k =
    ap (λ b. if b then true else (if is_sign_in (yes i) ss then false else d i)) k ∙ ap (λ b. if b then false else d i) h

pub inside_false : (ss : List Sign) (d : ℕ → Bool) (s : Sign) → NoClash ss → is_sign_in s ss ≡ true → sign_true (assigned ss d) s ≡ false
inside_false ss d s nc h = at s.place s.positive h
  where
    at : (i : ℕ) (b : Bool) → is_sign_in (sign i b) ss ≡ true → sign_true (assigned ss d) (sign i b) ≡ false
    at i true h = ap (λ b. bool_eq b true) (value_yes ss d i nc h)
    at i false h = ap (λ b. bool_eq b false) (value_no ss d i h)

pub opposite_true : (ss : List Sign) (d : ℕ → Bool) (s : Sign) → NoClash ss → is_sign_in (negated s) ss ≡ true → sign_true (assigned ss d) s ≡ true
opposite_true ss d s nc h =
    ap (sign_true (assigned ss d)) (sym (twice s)) ∙ negated_true (assigned ss d) (negated s) ∙ ap not (inside_false ss d (negated s) nc h)

pub free_value : (ss : List Sign) (d : ℕ → Bool) (s : Sign) → is_sign_in s ss ≡ false → is_sign_in (negated s) ss ≡ false → assigned ss d s.place ≡ d s.place
free_value ss d s h k = at s.place s.positive h k
  where
    at : (i : ℕ) (b : Bool) → is_sign_in (sign i b) ss ≡ false → is_sign_in (sign i (not b)) ss ≡ false → assigned ss d i ≡ d i
    at i true h k = value_free ss d i h k
    at i false h k = value_free ss d i k h

none_true : (ss : List Sign) (d : ℕ → Bool) (us : List Sign) → NoClash ss → ((s : Sign) → is_sign_in s us ≡ true → is_sign_in s ss ≡ true) → some_sign_true (assigned ss d) us ≡ false
none_true ss d [] nc inside = refl
none_true ss d (u ∷ us) nc inside =
    some_cons (assigned ss d) u us
    ∙ ap (λ b. b || some_sign_true (assigned ss d) us) (inside_false ss d u nc (inside u (in_first u us)))
    ∙ none_true ss d us nc (λ s h. inside s (in_rest s u us h))

pub counter : {X : Type 0} (ss : List Sign) (d : ℕ → Bool) → NoClash ss → IsMet (assigned ss d) ss → X
counter ss d nc h = no_both (some_sign_true (assigned ss d) ss) h (none_true ss d ss nc (λ s g. g))

-- ---- clashes

pub no_clash : (us : List Sign) → clashes us ≡ false → NoClash us
no_clash [] e p h k = cc
no_clash (s ∷ ss) e p h k =
    elim (true_or_false (sign_eq p s)) [
      | inl q ↦
          (let same : p ≡ s = sign_eq-true p s q in
          let there : is_sign_in (negated s) (s ∷ ss) ≡ true = subst (λ x. is_sign_in (negated x) (s ∷ ss) ≡ true) same k in
          no_both (is_sign_in (negated s) ss) (in_other (negated s) s ss (not_itself s) there) (or_false_left (is_sign_in (negated s) ss) (clashes ss) e))
      | inr q ↦
          elim (true_or_false (sign_eq (negated p) s)) [
            | inl r ↦
                (let back : p ≡ negated s = sym (twice p) ∙ ap negated (sign_eq-true (negated p) s r) in
                no_both (is_sign_in (negated s) ss) (subst (λ x. is_sign_in x ss ≡ true) back (in_other p s ss q h)) (or_false_left (is_sign_in (negated s) ss) (clashes ss) e))
            | inr r ↦ no_clash ss (or_false_right (is_sign_in (negated s) ss) (clashes ss) e) p (in_other p s ss q h) (in_other (negated p) s ss r k)
          ]
    ]

pub record Clash (ss : List Sign) : Type 0 where
  pub literal : Sign
  pub one : is_sign_in literal ss ≡ true
  pub other : is_sign_in (negated literal) ss ≡ true

pub clash_of : (us : List Sign) → clashes us ≡ true → Clash us
clash_of [] e = cc
clash_of (s ∷ ss) e = at (is_sign_in (negated s) ss) refl e (clash_of ss)
  where
    at : (b : Bool) → is_sign_in (negated s) ss ≡ b → (b || clashes ss) ≡ true → (clashes ss ≡ true → Clash ss) → Clash (s ∷ ss)
    at true h e rec = record { literal = s; one = in_first s ss; other = in_rest (negated s) s ss h }
    at false h e rec =
        let c : Clash ss = rec e in
        record { literal = c.literal; one = in_rest c.literal s ss c.one; other = in_rest (negated c.literal) s ss c.other }

-- ---- each once

pub in_once : (m : Sign) (ss : List Sign) → is_sign_in m (once ss) ≡ true → is_sign_in m ss ≡ true
in_once m [] h = h
in_once m (s ∷ ss) h = at (is_sign_in s ss) h (in_once m ss)
  where
    at : (b : Bool) → is_sign_in m (if b then once ss else s ∷ once ss) ≡ true → (is_sign_in m (once ss) ≡ true → is_sign_in m ss ≡ true) → is_sign_in m (s ∷ ss) ≡ true
    at true h rec = in_rest m s ss (rec h)
    at false h rec = in_cases (λ x. is_sign_in x (s ∷ ss) ≡ true) m s (once ss) (in_first s ss) (λ g. in_rest m s ss (rec g)) h

pub both : (a b : Bool) → a ≡ true → b ≡ true → (a && b) ≡ true
both true b p q = q
both false b p q = p

pub to_not : (b : Bool) → b ≡ false → not b ≡ true
to_not true h = cc
to_not false h = refl

pub once_once : (ss : List Sign) → is_once (once ss) ≡ true
once_once [] = refl
once_once (s ∷ ss) = at (is_sign_in s ss) refl (once_once ss)
  where
    at : (b : Bool) → is_sign_in s ss ≡ b → is_once (once ss) ≡ true → is_once (if b then once ss else s ∷ once ss) ≡ true
    at true e rec = rec
    at false e rec = both (not (is_sign_in s (once ss))) (is_once (once ss)) (to_not (is_sign_in s (once ss)) (false_if (is_sign_in s (once ss)) (λ h. no_both (is_sign_in s ss) (in_once s ss h) e))) rec

pub in_negated_back : (m : Sign) (ss : List Sign) → is_sign_in m (map negated ss) ≡ true → is_sign_in (negated m) ss ≡ true
in_negated_back m [] h = cc
in_negated_back m (s ∷ ss) h =
    in_cases (λ x. is_sign_in (negated x) (s ∷ ss) ≡ true) m (negated s) (map negated ss)
    (subst (λ x. is_sign_in x (s ∷ ss) ≡ true) (sym (twice s)) (in_first s ss))
    (λ g. in_rest (negated m) s ss (in_negated_back m ss g)) h

pub once_negated : (ss : List Sign) → is_once ss ≡ true → is_once (map negated ss) ≡ true
once_negated [] h = refl
once_negated (s ∷ ss) h =
    both (not (is_sign_in (negated s) (map negated ss))) (is_once (map negated ss))
    (to_not (is_sign_in (negated s) (map negated ss))
    (false_if (is_sign_in (negated s) (map negated ss))
    (λ g. no_both (is_sign_in s ss) (subst (λ x. is_sign_in x ss ≡ true) (twice s) (in_negated_back (negated s) ss g)) (from_not (is_sign_in s ss) (and_left (not (is_sign_in s ss)) (is_once ss) h)))))
    (once_negated ss (and_right (not (is_sign_in s ss)) (is_once ss) h))

-- ---- one that passes a test, or none

pub record Found (p : Sign → Bool) (us : List Sign) : Type 0 where
  pub literal : Sign
  pub inside : is_sign_in literal us ≡ true
  pub passes : p literal ≡ true

pub find : (p : Sign → Bool) (us : List Sign) → Found p us ⊎ ((s : Sign) → is_sign_in s us ≡ true → p s ≡ false)
find p [] = inr (λ s h. no_both false h refl)
find p (u ∷ us) =
    elim (true_or_false (p u)) [
      | inl t ↦ inl (record { literal = u; inside = in_first u us; passes = t })
      | inr f ↦
          elim (find p us) [
            | inl g ↦ inl (record { literal = g.literal; inside = in_rest g.literal u us g.inside; passes = g.passes })
            | inr none ↦ inr (λ s h. in_cases (λ x. p x ≡ false) s u us f (none s) h)
          ]
    ]

pub each_of : (a : ℕ → Bool) (us : List Sign) → ((s : Sign) → is_sign_in s us ≡ true → sign_true a s ≡ true) → each_true a us ≡ true
each_of a [] h = refl
each_of a (u ∷ us) h = both (sign_true a u) (each_true a us) (h u (in_first u us)) (each_of a us (λ s g. h s (in_rest s u us g)))

pub each_not : (a : ℕ → Bool) (us : List Sign) (s : Sign) → is_sign_in s us ≡ true → sign_true a s ≡ false → each_true a us ≡ false
each_not a [] s h f = cc
each_not a (u ∷ us) s h f =
    elim (true_or_false (sign_true a u)) [
      | inr e ↦ ap (λ b. b && each_true a us) e
      | inl e ↦
          ap (λ b. b && each_true a us) e
          ∙ each_not a us s (in_cases (λ x. (sign_true a x ≡ false → is_sign_in x us ≡ true)) s u us (λ g. no_both (sign_true a u) e g) (λ g k. g) h f) f
    ]

pub each_same : (a b : ℕ → Bool) (us : List Sign) → ((s : Sign) → is_sign_in s us ≡ true → a s.place ≡ b s.place) → each_true a us ≡ each_true b us
each_same a b [] h = refl
each_same a b (u ∷ us) h =
    ap (λ x. bool_eq x u.positive && each_true a us) (h u (in_first u us))
    ∙ ap (λ x. sign_true b u && x) (each_same a b us (λ s g. h s (in_rest s u us g)))
