-- Exact values of linear forms, as sums of pairs.
use Rattle.std.proofs.Common.{◌≡◌, ℕ, ◌+◌, ◌<◌, ◌≤◌, Bool, true, false, List, [], ◌∷◌, All, refl, sym, ap, subst, ◌∙◌, arith}
use Rattle.std.specs.Prelude.{ℤ, pos, ◌+ℤ◌, ◌*ℤ◌, if◌then◌else◌}
use Rattle.std.proofs.lemmas.Int.{ints}
use Rattle.std.proofs.lemmas.Bool.Decides.{nat_tests}
use Rattle.std.proofs.lemmas.List.Elements.{All-nil, All-cons}
use Rattle.fraction128.specs.Whole.{InRange as IsInRange, is_in_range}
use Rattle.fraction128.specs.Dot.{dot_of}
use Rattle.smt_meaning.specs.declared.values.Value.{Value}
use Rattle.smt_meaning.specs.declared.values.Value.TheVariants.{Whole}
use Rattle.smt_meaning.specs.declared.clauses.Summand.{Summand}
use Rattle.smt_meaning.specs.Term.{Tree, tree_at, number_of}
use Rattle.smt_meaning.specs.Linear.{Form, linear_form}
use Rattle.smt_meaning.specs.Ranges.{sum_at, form_at}
use Rattle.linear_forms.specs.Sums.{IsSumWithin}
use Rattle.linear_forms.specs.Table.{HasForm}
use Rattle.model_build.specs.declared.given.Given.TheVariants.{InRange, PastRange}
use Rattle.exact_model.specs.Exact.{exact_at, given_of, number_at}
use Rattle.exact_model.specs.Sums.{pairs_of, number_of_place}
use Rattle.exact_model.proofs.Forms.{number_is}

pub number_at_place : (ts : List Tree) (vs : List Value) (p : ℕ) → number_of_place ts vs p ≡ number_of (exact_at ts vs p)
unfolding number_of_place exact_at
number_at_place ts vs p = sym (number_is ts vs (tree_at ts p))

-- ---- sums as pairs

-- the sum of a form, beside its constant
pub dot_form : (vs : List Value) (sum : List Summand) (constant : ℤ) → dot_of constant (pairs_of vs sum) ≡ sum_at (number_at vs) sum +ℤ constant
dot_form vs [] constant = zero_left constant
  where
    zero_left : (z : ℤ) → z ≡ pos 0 +ℤ z
    zero_left z = omega (arith, ints)
dot_form vs (s ∷ sum) constant =
    ap (λ z. s.coefficient *ℤ number_at vs s.term +ℤ z) (dot_form vs sum constant) ∙ assoc (s.coefficient *ℤ number_at vs s.term) (sum_at (number_at vs) sum) constant
  where
    assoc : (x y z : ℤ) → x +ℤ (y +ℤ z) ≡ (x +ℤ y) +ℤ z
    assoc x y z = omega (arith, ints)

pub form_number : (ts : List Tree) (vs : List Value) (p : ℕ) (f : Form) → linear_form ts (tree_at ts p) ≡ f → number_of_place ts vs p ≡ form_at (number_at vs) f
unfolding number_of_place
form_number ts vs p f e = ap (form_at (number_at vs)) e

terms_within : (low high n : ℕ) (sum : List Summand) → high ≤ n → IsSumWithin low high sum → All (λ (s : Summand). s.term < n) sum
terms_within low high n [] h is = All-nil (λ (s : Summand). s.term < n)
terms_within low high n (s ∷ sum) h is = All-cons (λ (r : Summand). r.term < n) s sum (omega (arith, is.1)) (terms_within (s.term + 1) high n sum h is.3)

pub form_within : (ts : List Tree) (p n : ℕ) (f : Form) → p < n → HasForm ts p f → All (λ (s : Summand). s.term < n) f.sum
form_within ts p n f h is = terms_within 0 (p + 1) n f.sum (omega arith) is.is_sum

-- a number in the range, or past it
pub number_in : (z n : ℤ) → n ≡ z → IsInRange n → InRange (Whole n) ≡ given_of (Whole z)
number_in z n e h = ap (λ x. InRange (Whole x)) e ∙ by (is_in_range z) refl
  where
    by : (b : Bool) → is_in_range z ≡ b → InRange (Whole z) ≡ (if b then InRange (Whole z) else PastRange)
    by true k = refl
    by false k = let inside : IsInRange z = subst IsInRange e h in absurd (grind (arith, nat_tests))

pub number_past : (z : ℤ) → (IsInRange z → ⊥) → PastRange ≡ given_of (Whole z)
number_past z h = by (is_in_range z) refl
  where
    by : (b : Bool) → is_in_range z ≡ b → PastRange ≡ (if b then InRange (Whole z) else PastRange)
    by true k = absurd (h (grind (arith, nat_tests)))
    by false k = refl
