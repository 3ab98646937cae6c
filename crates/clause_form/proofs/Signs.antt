-- Literals and lists of them, by tests.
use Rattle.std.proofs.Common.{◌≡◌, ℕ, suc, List, [], ◌∷◌, refl, sym, ◌∙◌, ap, subst, arith, Bool, true, false, not, ◌&&◌, ◌||◌, nat_eq, Contains, All, ◌⊎◌, inl, inr, eq-eqb, length, ◌<◌, slice_index_or}
use Rattle.std.proofs.lemmas.Bool.{eqb-true, and_parts, or_parts}
use Rattle.std.proofs.lemmas.List.Elements.{All-nil, All-cons, All-weaker, All-contains, Contains-get_or}
use Rattle.smt_meaning.specs.Term.{bool_eq}
use Rattle.smt_meaning.specs.Forced.{Sign}
use Rattle.clause_form.specs.Signs.{sign, negated, sign_true, sign_eq, is_sign_in}

pub and_left : (a b : Bool) → (a && b) ≡ true → a ≡ true
and_left a b h = (and_parts a b h).0

pub and_right : (a b : Bool) → (a && b) ≡ true → b ≡ true
and_right a b h = (and_parts a b h).1

pub or_false_left : (a b : Bool) → (a || b) ≡ false → a ≡ false
or_false_left a b h = (or_parts a b h).0

pub or_false_right : (a b : Bool) → (a || b) ≡ false → b ≡ false
or_false_right a b h = (or_parts a b h).1

pub or_right : (a b : Bool) → b ≡ true → (a || b) ≡ true
or_right true b h = refl
or_right false b h = h

pub or_left : (a b : Bool) → a ≡ true → (a || b) ≡ true
or_left true b h = refl
or_left false b h = cc

pub true_or_false : (b : Bool) → (b ≡ true) ⊎ (b ≡ false)
true_or_false true = inl refl
true_or_false false = inr refl

pub bool_eq-true : (a b : Bool) → bool_eq a b ≡ true → a ≡ b
bool_eq-true true b h = sym h
bool_eq-true false true h = cc
bool_eq-true false false h = refl

pub bool_eq-self : (b : Bool) → bool_eq b b ≡ true
bool_eq-self true = refl
bool_eq-self false = refl

pub bool_eq-not : (a b : Bool) → bool_eq a (not b) ≡ not (bool_eq a b)
bool_eq-not true true = refl
bool_eq-not true false = refl
bool_eq-not false true = refl
bool_eq-not false false = refl

pub not-not : (b : Bool) → not (not b) ≡ b
not-not true = refl
not-not false = refl

pub negated_true : (a : ℕ → Bool) (s : Sign) → sign_true a (negated s) ≡ not (sign_true a s)
negated_true a s = bool_eq-not (a s.place) s.positive

pub twice : (s : Sign) → negated (negated s) ≡ s
twice s = ap (sign s.place) (not-not s.positive)

pub sign_eq-true : (s u : Sign) → sign_eq s u ≡ true → s ≡ u
sign_eq-true s u h =
    ap (λ i. sign i s.positive) (eqb-true s.place u.place (and_left (nat_eq s.place u.place) (bool_eq s.positive u.positive) h))
    ∙ ap (sign u.place) (bool_eq-true s.positive u.positive (and_right (nat_eq s.place u.place) (bool_eq s.positive u.positive) h))

both : (a b : Bool) → a ≡ true → b ≡ true → (a && b) ≡ true
both true b p q = q
both false b p q = p

pub sign_eq-self : (s : Sign) → sign_eq s s ≡ true
sign_eq-self s = both (nat_eq s.place s.place) (bool_eq s.positive s.positive) (eq-eqb s.place s.place refl) (bool_eq-self s.positive)

-- ---- membership

pub in_first : (s : Sign) (ss : List Sign) → is_sign_in s (s ∷ ss) ≡ true
in_first s ss = or_left (sign_eq s s) (is_sign_in s ss) (sign_eq-self s)

pub in_rest : (s u : Sign) (ss : List Sign) → is_sign_in s ss ≡ true → is_sign_in s (u ∷ ss) ≡ true
in_rest s u ss h = or_right (sign_eq s u) (is_sign_in s ss) h

-- by the first or by the rest
pub in_cases : (P : Sign → Type 0) (s u : Sign) (us : List Sign) → P u → (is_sign_in s us ≡ true → P s) → is_sign_in s (u ∷ us) ≡ true → P s
in_cases P s u us here there h =
    elim (true_or_false (sign_eq s u)) [
      | inl e ↦ subst P (sym (sign_eq-true s u e)) here
      | inr e ↦ there (sym (ap (λ b. b || is_sign_in s us) e) ∙ h)
    ]

-- what holds of each element
pub each_in : (P : Sign → Type 0) (us : List Sign) → All P us → (s : Sign) → is_sign_in s us ≡ true → P s
each_in P [] all s h = cc
each_in P (u ∷ us) all s h =
    in_cases P s u us (all 0 u (omega arith)) (each_in P us (λ k d g. all (suc k) d (omega (arith, g))) s) h

pub in_contains : (s : Sign) (us : List Sign) → is_sign_in s us ≡ true → Contains us s
in_contains s us h = each_in (Contains us) us (λ k d g. Contains-at us k d g) s h
  where
    Contains-at : (us : List Sign) (k : ℕ) (d : Sign) → k < length us → Contains us (slice_index_or us k d)
    Contains-at us k d g = Contains-get_or us k d g

pub contains_in : (s : Sign) (us : List Sign) → Contains us s → is_sign_in s us ≡ true
contains_in s us h = All-contains (λ u. is_sign_in u us ≡ true) us s (all us) h
  where
    all : (us : List Sign) → All (λ u. is_sign_in u us ≡ true) us
    all [] = All-nil (λ u. is_sign_in u [] ≡ true)
    all (u ∷ us) =
        All-cons (λ x. is_sign_in x (u ∷ us) ≡ true) u us (in_first u us)
        (All-weaker (λ x. is_sign_in x us ≡ true) (λ x. is_sign_in x (u ∷ us) ≡ true) (λ x h. in_rest x u us h) us (all us))
