-- Clauses force each clause that has all literals of one of them; and each that has a place with both signs.
use Rattle.std.proofs.Common.{◌≡◌, ℕ, List, [], ◌∷◌, ◌++◌, map, refl, sym, ◌∙◌, ap, subst, Bool, true, false, not, ◌&&◌, ◌||◌, nat_eq, Contains, inl, inr}
use Rattle.smt_meaning.specs.Term.{bool_eq}
use Rattle.smt_meaning.specs.Forced.{Sign}
use Rattle.smt_meaning.specs.Forced.{start, unit, Forces}
use Rattle.clause_form.specs.Signs.{negated, sign_true, sign_eq, is_sign_in}
use Rattle.clause_form.proofs.Signs.{true_or_false, and_left, and_right, or_left, or_right, sign_eq-true, in_first, in_rest, in_cases, in_contains, contains_in, twice, negated_true}
use Rattle.clause_form.proofs.TrueClauses.{IsMet, some_first, some_rest}

-- no literal stands twice
abbrev pub is_once : List Sign → Bool
is_once [] = true
is_once (s ∷ ss) = not (is_sign_in s ss) && is_once ss

-- one of the clauses, all of whose literals these have
pub record Hits (ds : List (List Sign)) (ss : List Sign) : Type 0 where
  pub clause : List Sign
  pub kept : Contains ds clause
  pub inside : (s : Sign) → is_sign_in s clause ≡ true → is_sign_in s ss ≡ true
  pub once : is_once clause ≡ true

-- ---- lists without a literal

pub from_not : (b : Bool) → not b ≡ true → b ≡ false
from_not true h = cc
from_not false h = refl

pub in_other : (m s : Sign) (ss : List Sign) → sign_eq m s ≡ false → is_sign_in m (s ∷ ss) ≡ true → is_sign_in m ss ≡ true
in_other m s ss e h = sym (ap (λ b. b || is_sign_in m ss) e) ∙ h

-- another literal is left where one is taken away
left_over : (m l : Sign) (before after : List Sign) → sign_eq m l ≡ false → is_sign_in m (before ++ l ∷ after) ≡ true → is_sign_in m (before ++ after) ≡ true
left_over m l [] after e h = in_other m l after e h
left_over m l (s ∷ before) after e h =
    elim (true_or_false (sign_eq m s)) [
      | inl q ↦ or_left (sign_eq m s) (is_sign_in m (before ++ after)) q
      | inr q ↦ or_right (sign_eq m s) (is_sign_in m (before ++ after)) (left_over m l before after e (in_other m s (before ++ l ∷ after) q h))
    ]

pub in_negated : (m : Sign) (ss : List Sign) → is_sign_in m ss ≡ true → is_sign_in (negated m) (map negated ss) ≡ true
in_negated m [] h = cc
in_negated m (s ∷ ss) h =
    in_cases (λ x. is_sign_in (negated x) (map negated (s ∷ ss)) ≡ true) m s ss (in_first (negated s) (map negated ss))
    (λ g. in_rest (negated m) (negated s) (map negated ss) (in_negated m ss g)) h

-- a clause with a literal of its own taken out
record Split (l : Sign) (d : List Sign) : Type 0 where
  pub before : List Sign
  pub after : List Sign
  pub whole : d ≡ before ++ l ∷ after
  pub apart : (m : Sign) → is_sign_in m (before ++ after) ≡ true → (is_sign_in m d ≡ true) × (sign_eq m l ≡ false)

different : (m s : Sign) (ss : List Sign) → is_sign_in s ss ≡ false → is_sign_in m ss ≡ true → sign_eq m s ≡ false
different m s ss e h = at (sign_eq m s) refl
  where
    at : (b : Bool) → sign_eq m s ≡ b → b ≡ false
    at true q = absurd (let here : is_sign_in s ss ≡ true = subst (λ x. is_sign_in x ss ≡ true) (sign_eq-true m s q) h in cc)
    at false q = refl

other_way : (s l : Sign) (ss : List Sign) → is_sign_in s ss ≡ false → is_sign_in l ss ≡ true → sign_eq s l ≡ false
other_way s l ss e h = way (sign_eq s l) refl
  where
    way : (b : Bool) → sign_eq s l ≡ b → b ≡ false
    way true q = absurd (let here : is_sign_in s ss ≡ true = subst (λ x. is_sign_in x ss ≡ true) (sym (sign_eq-true s l q)) h in cc)
    way false q = refl

split : (l : Sign) (d : List Sign) → is_once d ≡ true → is_sign_in l d ≡ true → Split l d
split l [] o h = cc
split l (s ∷ ss) o h = at (sign_eq l s) refl (λ g. split l ss (and_right (not (is_sign_in s ss)) (is_once ss) o) g)
  where
    fresh : is_sign_in s ss ≡ false
    fresh = from_not (is_sign_in s ss) (and_left (not (is_sign_in s ss)) (is_once ss) o)

    at : (b : Bool) → sign_eq l s ≡ b → (is_sign_in l ss ≡ true → Split l ss) → Split l (s ∷ ss)
    at true e rec =
        let same : l ≡ s = sign_eq-true l s e in
        record {
          before = [];
          after = ss;
          whole = ap (λ x. x ∷ ss) (sym same);
          apart = λ m g. (in_rest m s ss g, subst (λ x. sign_eq m x ≡ false) (sym same) (different m s ss fresh g));
        }
    at false e rec =
        let r : Split l ss = rec (in_other l s ss e h) in
        record {
          before = s ∷ r.before;
          after = r.after;
          whole = ap (λ xs. s ∷ xs) r.whole;
          apart = λ m g.
              elim (true_or_false (sign_eq m s)) [
                | inl q ↦
                    (let same : m ≡ s = sign_eq-true m s q in
                    let apart' : sign_eq s l ≡ false = other_way s l ss fresh (in_other l s ss e h) in
                    (or_left (sign_eq m s) (is_sign_in m ss) q, subst (λ x. sign_eq x l ≡ false) (sym same) apart'))
                | inr q ↦
                    (let rest = r.apart m (in_other m s (r.before ++ r.after) q g) in
                    (in_rest m s ss rest.0, rest.1))
              ];
        }

-- ---- forcing

-- what is false where the other literals are
given : (ss before after : List Sign) (l m : Sign) → ss ≡ before ++ l ∷ after → is_sign_in m ss ≡ true → sign_eq m l ≡ false
    → Contains (map negated (before ++ after)) (negated m)
given ss before after l m e h d =
    in_contains (negated m) (map negated (before ++ after))
    (in_negated m (before ++ after) (left_over m l before after d (subst (λ xs. is_sign_in m xs ≡ true) e h)))

pub hit : (ds : List (List Sign)) (ss : List Sign) → Hits ds ss → Forces negated ds ss
hit ds ss h before after l e =
    elim (true_or_false (is_sign_in l h.clause)) [
      | inl i ↦
          (let r : Split l h.clause = split l h.clause h.once i in
          inl (unit r.before r.after (subst (Contains ds) r.whole h.kept)
          (λ m c.
          (let a = r.apart m (contains_in m (r.before ++ r.after) c) in
          start (given ss before after l m e (h.inside m a.0) a.1)))))
      | inr i ↦
          inr (record {
            clause = h.clause;
            kept = h.kept;
            all_false = λ m c.
                (let inside : is_sign_in m h.clause ≡ true = contains_in m h.clause c in
                start (given ss before after l m e (h.inside m inside) (different m l h.clause i inside)));
          })
    ]

-- ---- a place with both signs

in_met : (a : ℕ → Bool) (s : Sign) (ss : List Sign) → is_sign_in s ss ≡ true → sign_true a s ≡ true → IsMet a ss
in_met a s [] h t = cc
in_met a s (u ∷ us) h t =
    elim (true_or_false (sign_eq s u)) [
      | inl e ↦ some_first a u us (subst (λ x. sign_true a x ≡ true) (sign_eq-true s u e) t)
      | inr e ↦ some_rest a u us (in_met a s us (in_other s u us e h) t)
    ]

both_met : (a : ℕ → Bool) (p : Sign) (ss : List Sign) → is_sign_in p ss ≡ true → is_sign_in (negated p) ss ≡ true → IsMet a ss
both_met a p ss h k =
    elim (true_or_false (sign_true a p)) [
      | inl t ↦ in_met a p ss h t
      | inr t ↦ in_met a (negated p) ss k (negated_true a p ∙ ap not t)
    ]

pub not_itself : (l : Sign) → sign_eq (negated l) l ≡ false
not_itself l = at (nat_eq l.place l.place) l.positive
  where
    at : (b c : Bool) → (b && bool_eq (not c) c) ≡ false
    at true true = refl
    at true false = refl
    at false c = refl

-- where taking a literal out leaves a clause that isn't true of everything
pub both_signs : (ds : List (List Sign)) (ss : List Sign) (p : Sign) → is_sign_in p ss ≡ true → is_sign_in (negated p) ss ≡ true
    → ((before after : List Sign) (s : Sign) → ss ≡ before ++ s ∷ after → ((a : ℕ → Bool) → IsMet a (before ++ after)) → ⊥) → Forces negated ds ss
both_signs ds ss p h k least before after l e =
    elim (true_or_false (is_sign_in (negated l) ss)) [
      | inl i ↦ inl (start (subst (Contains (map negated (before ++ after))) (twice l) (given ss before after l (negated l) e i (not_itself l))))
      | inr i ↦
          (let first : sign_eq p l ≡ false = at p (λ q. subst (λ x. is_sign_in (negated x) ss ≡ true) q k) i in
          let second : sign_eq (negated p) l ≡ false = at (negated p) (λ q. subst (λ x. is_sign_in (negated x) ss ≡ true) q (subst (λ x. is_sign_in x ss ≡ true) (sym (twice p)) h)) i in
          absurd (least before after l e
          (λ a. both_met a p (before ++ after)
          (left_over p l before after first (subst (λ xs. is_sign_in p xs ≡ true) e h))
          (left_over (negated p) l before after second (subst (λ xs. is_sign_in (negated p) xs ≡ true) e k)))))
    ]
  where
    at : (q : Sign) → (q ≡ l → is_sign_in (negated l) ss ≡ true) → is_sign_in (negated l) ss ≡ false → sign_eq q l ≡ false
    at q f i = way (sign_eq q l) refl
      where
        way : (b : Bool) → sign_eq q l ≡ b → b ≡ false
        way true r = absurd (let here : is_sign_in (negated l) ss ≡ true = f (sign_eq-true q l r) in cc)
        way false r = refl
