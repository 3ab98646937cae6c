-- Truth values by which the literals of a clause are false.
use Rattle.std.proofs.Common.{◌≡◌, ◌≢◌, ℕ, ◌+◌, ◌*◌, ◌/◌, ◌%◌, Bool, true, false, not, nat_eq, List, Option, Some, Contains, refl, sym, ap, ◌∙◌, subst, inl, inr, ◌⊎◌, arith}
use Rattle.std.specs.Prelude.{if◌then◌else◌}
use Rattle.std.specs.List.{Any}
use Rattle.std.proofs.lemmas.Bool.Decides.{nat_tests}
use Rattle.std.proofs.lemmas.Bool.{ne_eqb, eqb-true, false≢true}
use Rattle.std.proofs.lemmas.List.Folds.{list_any_at, Any-from_list_any}
use Rattle.proof_terms.specs.Kept.{sign_code}
use Rattle.proof_terms.specs.FormValues.{is_in, chosen, on_rest, HasNoClash, IsFree, IsGiven, AreFalse}

-- ---- membership

pub eqb_refl : (n : ℕ) → nat_eq n n ≡ true
eqb_refl n = grind (arith, nat_tests)

pub in_from : (codes : List ℕ) (c : ℕ) → Contains codes c → is_in codes c ≡ true
in_from codes c h = list_any_at (λ x. nat_eq x c) codes h.0 c h.1 (ap (λ x. nat_eq x c) h.2 ∙ eqb_refl c)

pub from_in : (codes : List ℕ) (c : ℕ) → is_in codes c ≡ true → Contains codes c
from_in codes c h =
    let a : Any (λ x. nat_eq x c ≡ true) codes = Any-from_list_any (λ x. nat_eq x c) codes h in
    subst (Contains codes) (eqb-true a.1 c a.4) (a.0, a.2, a.3)

pub not_in : (codes : List ℕ) (c : ℕ) → is_in codes c ≡ false → Contains codes c → ⊥
not_in codes c h k = false≢true (sym h ∙ in_from codes c k)

-- ---- where all literals are false

pub at_negative : (codes : List ℕ) (rest : Bool) (turned : Option ℕ) (n : ℕ) → is_in codes (n * 2) ≡ true → chosen codes rest turned n ≡ true
unfolding chosen
at_negative codes rest turned n h = ap (λ b. if b then true else (if is_in codes (n * 2 + 1) then false else on_rest rest turned n)) h

pub at_positive : (codes : List ℕ) (rest : Bool) (turned : Option ℕ) (n : ℕ) → is_in codes (n * 2) ≡ false → is_in codes (n * 2 + 1) ≡ true → chosen codes rest turned n ≡ false
unfolding chosen
at_positive codes rest turned n h g =
    ap (λ b. if b then true else (if is_in codes (n * 2 + 1) then false else on_rest rest turned n)) h ∙ ap (λ b. if b then false else on_rest rest turned n) g

pub at_other : (codes : List ℕ) (rest : Bool) (turned : Option ℕ) (n : ℕ) → is_in codes (n * 2) ≡ false → is_in codes (n * 2 + 1) ≡ false → chosen codes rest turned n ≡ on_rest rest turned n
unfolding chosen
at_other codes rest turned n h g =
    ap (λ b. if b then true else (if is_in codes (n * 2 + 1) then false else on_rest rest turned n)) h ∙ ap (λ b. if b then false else on_rest rest turned n) g

pub turned_same : (rest : Bool) (p n : ℕ) → p ≡ n → on_rest rest (Some p) n ≡ not rest
turned_same rest p n e = ap (λ b. if b then not rest else rest) (ap (λ x. nat_eq x n) e ∙ eqb_refl n)

pub turned_other : (rest : Bool) (p n : ℕ) → p ≢ n → on_rest rest (Some p) n ≡ rest
turned_other rest p n e = ap (λ b. if b then not rest else rest) (ne_eqb p n e)

-- ---- an atom has a literal or none

by_tests : (codes : List ℕ) (n : ℕ) (a b : Bool) → is_in codes (n * 2) ≡ a → is_in codes (n * 2 + 1) ≡ b → IsFree codes n ⊎ IsGiven codes n
by_tests codes n true b e f = inr (false, subst (Contains codes) (even n) (from_in codes (n * 2) e))
  where
    even : (n : ℕ) → n * 2 ≡ n * 2 + 0
    even n = omega arith
by_tests codes n false true e f = inr (true, from_in codes (n * 2 + 1) f)
by_tests codes n false false e f = inl none
  where
    none : IsFree codes n
    none true k = not_in codes (n * 2 + 1) f k
    none false k = not_in codes (n * 2) e (subst (Contains codes) (let q : n * 2 + 0 ≡ n * 2 = omega arith in q) k)

pub free_by_tests : (codes : List ℕ) (n : ℕ) → is_in codes (n * 2) ≡ false → is_in codes (n * 2 + 1) ≡ false → IsFree codes n
free_by_tests codes n e f true k = not_in codes (n * 2 + 1) f k
free_by_tests codes n e f false k = not_in codes (n * 2) e (subst (Contains codes) (let q : n * 2 + 0 ≡ n * 2 = omega arith in q) k)

pub free_or_given : (codes : List ℕ) (n : ℕ) → IsFree codes n ⊎ IsGiven codes n
free_or_given codes n = by_tests codes n (is_in codes (n * 2)) (is_in codes (n * 2 + 1)) refl refl

-- ---- what is chosen

out : (codes : List ℕ) (c : ℕ) → (Contains codes c → ⊥) → (b : Bool) → is_in codes c ≡ b → is_in codes c ≡ false
out codes c h true e = absurd (h (from_in codes c e))
out codes c h false e = e

pub not_inside : (codes : List ℕ) (c : ℕ) → (Contains codes c → ⊥) → is_in codes c ≡ false
not_inside codes c h = out codes c h (is_in codes c) refl

zero_more : (n : ℕ) → n * 2 + 0 ≡ n * 2
zero_more n = omega arith

pub chosen_given : (codes : List ℕ) (rest : Bool) (turned : Option ℕ) (n : ℕ) (b : Bool) → HasNoClash codes → Contains codes (n * 2 + sign_code b) → chosen codes rest turned n ≡ not b
chosen_given codes rest turned n true clear h = at_positive codes rest turned n (not_inside codes (n * 2) (λ k. clear n k h)) (in_from codes (n * 2 + 1) h)
chosen_given codes rest turned n false clear h = at_negative codes rest turned n (in_from codes (n * 2) (subst (Contains codes) (zero_more n) h))

pub chosen_free : (codes : List ℕ) (rest : Bool) (turned : Option ℕ) (n : ℕ) → IsFree codes n → chosen codes rest turned n ≡ on_rest rest turned n
chosen_free codes rest turned n f =
    at_other codes rest turned n (not_inside codes (n * 2) (λ k. f false (subst (Contains codes) (sym (zero_more n)) k))) (not_inside codes (n * 2 + 1) (f true))

pub chosen_makes_false : (codes : List ℕ) (rest : Bool) (turned : Option ℕ) → HasNoClash codes → AreFalse (chosen codes rest turned) codes
chosen_makes_false codes rest turned clear n b h = chosen_given codes rest turned n b clear h

-- ---- literals that are there

pub negative : (codes : List ℕ) (n : ℕ) → is_in codes (n * 2) ≡ true → Contains codes (n * 2 + sign_code false)
negative codes n h = subst (Contains codes) (sym (zero_more n)) (from_in codes (n * 2) h)

pub positive : (codes : List ℕ) (n : ℕ) → is_in codes (n * 2 + 1) ≡ true → Contains codes (n * 2 + sign_code true)
positive codes n h = from_in codes (n * 2 + 1) h

pub not_free : (codes : List ℕ) (n : ℕ) → IsGiven codes n → IsFree codes n → ⊥
not_free codes n g f = f g.0 g.1

pub half_twice : (c : ℕ) → (c % 2 ≡ 1 → ⊥) → c / 2 * 2 ≡ c
half_twice c h = omega arith

pub not_same : (a b : ℕ) → not (nat_eq a b) ≡ true → a ≢ b
not_same a b h e = false≢true (sym (ap not (ap (λ x. nat_eq x b) e ∙ eqb_refl b)) ∙ h)
