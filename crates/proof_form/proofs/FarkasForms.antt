-- What is at most 0 where a weighted literal is false, as a form.
use Rattle.std.proofs.Common.{◌≡◌, ℕ, suc, ◌+◌, ◌<◌, ◌≤◌, ◌^◌, Bool, true, false, ◌&&◌, List, [], ◌∷◌, length, All, sym, ap, ap₂, subst, ◌∙◌, refl, arith, Some}
use Rattle.std.specs.Prelude.{ℤ, pos, negsuc, neg_ℤ, ◌+ℤ◌, ◌*ℤ◌, AllPairs}
use Rattle.std.proofs.lemmas.Int.{ints}
use Rattle.std.proofs.lemmas.List.Elements.{All-nil, All-cons, All-head, All-tail}
use Rattle.fraction128.specs.Whole.{InRange, is_in_range}
use Rattle.smt_meaning.specs.declared.clauses.Summand.{Summand}
use Rattle.smt_meaning.specs.declared.clauses.Atom.{Atom}
use Rattle.smt_meaning.specs.declared.clauses.Atom.TheVariants.{AtMost, Truth, Same}
use Rattle.proof_meaning.specs.declared.proof.Weighted.{Weighted}
use Rattle.smt_meaning.specs.Declaration.{Declaration}
use Rattle.smt_meaning.specs.Term.{Tree}
use Rattle.smt_meaning.specs.Linear.{Form, summand, sum_fits, sums_added, each_times, sum_times}
use Rattle.proof_meaning.specs.Proof.{IsSummand, IsAtom}
use Rattle.proof_meaning.specs.Rules.{false_bound}
use Rattle.smt_laws.proofs.Both.{and_left, and_right, and_both}
use Rattle.smt_laws.proofs.LinearLaw.{minus_one}
use Rattle.linear_forms.specs.Sums.{coefficient_of, IsSumWithin, IsSum, signed}
use Rattle.linear_forms.proofs.FoldLemmas.{negated_in_range}
use Rattle.linear_forms.proofs.SumLemmas.{sums_added_sum, sums_added_at, same_sums, sum_times_sum, plus_none, fits_in_range, in_range_fits}
use Rattle.proof_read.specs.Written.{atom_fits, is_small, weights_fit}
use Rattle.proof_terms.specs.Range.{form_of_weighted, IsWeighted}
use Rattle.proof_form.specs.FarkasSums.{IsMultiple, AreMultiples, signed_sum, atom_sum, atom_constant, weighted_sum}

-- ---- signed sums

signed_zero : (b : Bool) (z : ℤ) → signed b z ≡ pos 0 → z ≡ pos 0
signed_zero false z e = e
signed_zero true z e = let f : neg_ℤ z ≡ pos 0 = sym (minus_one z) ∙ e in omega (arith, ints)

signed_within : (b : Bool) (low high : ℕ) (ps : List Summand) → IsSumWithin low high ps → IsSumWithin low high (signed_sum b ps)
signed_within b low high [] h = tt
signed_within b low high (p ∷ ps) h = (h.0, h.1, λ e. h.2 (signed_zero b p.coefficient e), signed_within b (p.term + 1) high ps h.3)

signed_in_range : (b : Bool) (z : ℤ) → InRange z → InRange (signed b z)
signed_in_range true z h = negated_in_range z h
signed_in_range false z h = h

signed_fits : (b : Bool) (ps : List Summand) → sum_fits ps ≡ true → sum_fits (signed_sum b ps) ≡ true
signed_fits b [] h = refl
signed_fits b (p ∷ ps) h =
    and_both (is_in_range (signed b p.coefficient)) (sum_fits (signed_sum b ps))
    (in_range_fits (signed b p.coefficient) (signed_in_range b p.coefficient (fits_in_range p.coefficient (and_left (is_in_range p.coefficient) (sum_fits ps) h))))
    (signed_fits b ps (and_right (is_in_range p.coefficient) (sum_fits ps) h))

unsigned : (ps : List Summand) → ps ≡ signed_sum false ps
unsigned [] = refl
unsigned (p ∷ ps) = ap (λ qs. p ∷ qs) (unsigned ps)

negated : (ps : List Summand) → each_times (negsuc 0) ps ≡ signed_sum true ps
negated [] = refl
negated (p ∷ ps) = ap (λ qs. summand p.term (negsuc 0 *ℤ p.coefficient) ∷ qs) (negated ps)

added_to_none : (high : ℕ) (ps : List Summand) → IsSum high ps → sums_added ps [] ≡ ps
added_to_none high ps h =
    same_sums 0 high (sums_added ps []) ps (sums_added_sum high ps [] h tt) h (λ i. sums_added_at high ps [] i h tt ∙ plus_none (coefficient_of ps i))

-- ---- forms

abbrev pub place_form : Bool → Atom → Form
place_form b a = record { sum = atom_sum b a; constant = atom_constant b a }

turned_constant : (k : ℤ) → (negsuc 0 *ℤ neg_ℤ k) +ℤ pos 1 ≡ k +ℤ pos 1
turned_constant k = let e : negsuc 0 *ℤ neg_ℤ k ≡ neg_ℤ (neg_ℤ k) = minus_one (neg_ℤ k) in omega (arith, ints)

bound_form : (b : Bool) (high : ℕ) (ps : List Summand) (k : ℤ) → IsSum high ps → false_bound b (AtMost ps k) ≡ Some (place_form b (AtMost ps k))
bound_form true high ps k h =
    ap₂ (λ qs z. Some (let f : Form = record { sum = qs; constant = z } in f))
    (added_to_none high (sum_times (negsuc 0) ps) (sum_times_sum high (negsuc 0) ps h) ∙ negated ps) (turned_constant k)
bound_form false high ps k h = ap (λ qs. Some (let f : Form = record { sum = qs; constant = neg_ℤ k } in f)) (unsigned ps)

abbrev pub weighted_form : Weighted → Form
weighted_form w = place_form w.literal.positive w.literal.atom

-- a form without zero coefficients, that fits the range but for its constant
pub record HasForm (high : ℕ) (w : Weighted) : Type 0 where
  pub form : form_of_weighted w ≡ Some (weighted_form w)
  pub is_sum : IsSum high (weighted_sum w)
  pub coefficients : sum_fits (weighted_sum w) ≡ true

pub has_form : (high : ℕ) (w : Weighted) → IsMultiple high w → HasForm high w
has_form high w m =
    let b = w.literal.positive in
    record {
      form = ap (false_bound b) m.atom ∙ bound_form b high m.sum m.limit m.is_sum ∙ ap (λ a. Some (place_form b a)) (sym m.atom);
      is_sum = subst (λ a. IsSum high (atom_sum b a)) (sym m.atom) (signed_within b 0 high m.sum m.is_sum);
      coefficients = ap (λ a. sum_fits (atom_sum b a)) m.atom ∙ signed_fits b m.sum m.coefficients;
    }

-- ---- from literals over the terms

later_pairs : (p : Summand) (ps : List Summand) → AllPairs (λ (x y : Summand). x.term < y.term) (p ∷ ps) → AllPairs (λ (x y : Summand). x.term < y.term) ps
later_pairs p ps h = λ i j d l m. h (suc i) (suc j) d (omega arith) (omega arith)

first_below : (p : Summand) (ps : List Summand) → AllPairs (λ (x y : Summand). x.term < y.term) (p ∷ ps) → All (λ (x : Summand). p.term + 1 ≤ x.term) ps
first_below p ps h = λ j d m. let l = h 0 (suc j) d (omega arith) (omega arith) in omega (arith, l)

pub sum_over : (ds : List Declaration) (ts : List Tree) (low : ℕ) (ps : List Summand) → All (IsSummand ds ts) ps → AllPairs (λ (x y : Summand). x.term < y.term) ps
    → All (λ (x : Summand). low ≤ x.term) ps → IsSumWithin low (length ts) ps
sum_over ds ts low [] all pairs above = tt
sum_over ds ts low (p ∷ ps) all pairs above =
    let here : IsSummand ds ts p = All-head (IsSummand ds ts) p ps all in (
      All-head (λ (x : Summand). low ≤ x.term) p ps above,
      here.int.0,
      here.not_zero,
      sum_over ds ts (p.term + 1) ps (All-tail (IsSummand ds ts) p ps all) (later_pairs p ps pairs) (first_below p ps pairs),
    )

pub bound_of : (b : Bool) (a : Atom) (f : Form) → false_bound b a ≡ Some f → (ps : List Summand) × ((k : ℤ) × (a ≡ AtMost ps k))
bound_of b (AtMost ps k) f e = (ps, (k, refl))
bound_of true (Truth i) f e = absurd (cc)
bound_of true (Same i j) f e = absurd (cc)
bound_of false (Truth i) f e = absurd (cc)
bound_of false (Same i j) f e = absurd (cc)

below_limit : (n : ℕ) → is_small n ≡ true → n < 2 ^ 127
below_limit n h = fits_in_range (pos n) h

is_multiple : (ds : List Declaration) (ts : List Tree) (w : Weighted) → IsWeighted ds ts w → (is_small w.numerator && (is_small w.denominator && atom_fits w.literal.atom)) ≡ true → IsMultiple (length ts) w
is_multiple ds ts w h fits =
    let bound = bound_of w.literal.positive w.literal.atom h.form h.bound in
    let ps = bound.0 in
    let k = bound.1.0 in
    let e : w.literal.atom ≡ AtMost ps k = bound.1.1 in
    let inner = and_right (is_small w.numerator) (is_small w.denominator && atom_fits w.literal.atom) fits in
    let atom_in : (sum_fits ps && is_in_range k) ≡ true = ap atom_fits (sym e) ∙ and_right (is_small w.denominator) (atom_fits w.literal.atom) inner in
    let over : IsAtom ds ts (AtMost ps k) = subst (IsAtom ds ts) e h.literal in
    record {
      numerator_above = h.numerator_above;
      numerator_in = below_limit w.numerator (and_left (is_small w.numerator) (is_small w.denominator && atom_fits w.literal.atom) fits);
      denominator_above = h.denominator_above;
      denominator_in = below_limit w.denominator (and_left (is_small w.denominator) (atom_fits w.literal.atom) inner);
      sum = ps;
      limit = k;
      atom = e;
      is_sum = sum_over ds ts 0 ps over.0 over.1 (λ i d m. omega arith);
      coefficients = and_left (sum_fits ps) (is_in_range k) atom_in;
      limit_in = fits_in_range k (and_right (sum_fits ps) (is_in_range k) atom_in);
    }

all_multiples : (ds : List Declaration) (ts : List Tree) (ws : List Weighted) → All (IsWeighted ds ts) ws → weights_fit ws ≡ true → All (IsMultiple (length ts)) ws
all_multiples ds ts [] all fits = All-nil (IsMultiple (length ts))
all_multiples ds ts (w ∷ ws) all fits =
    let here = is_small w.numerator && (is_small w.denominator && atom_fits w.literal.atom) in
    All-cons (IsMultiple (length ts)) w ws
    (is_multiple ds ts w (All-head (IsWeighted ds ts) w ws all) (and_left here (weights_fit ws) fits))
    (all_multiples ds ts ws (All-tail (IsWeighted ds ts) w ws all) (and_right here (weights_fit ws) fits))

pub are_multiples : (ds : List Declaration) (ts : List Tree) (ws : List Weighted) → All (IsWeighted ds ts) ws → weights_fit ws ≡ true → AreMultiples ws
are_multiples ds ts ws all fits = (length ts, all_multiples ds ts ws all fits)

-- ---- all of them

abbrev pub HaveForms : ℕ → List Weighted → Type 0
HaveForms high [] = Unit {0}
HaveForms high (w ∷ ws) = HasForm high w × HaveForms high ws

pub have_forms : (high : ℕ) (ws : List Weighted) → All (IsMultiple high) ws → HaveForms high ws
have_forms high [] all = tt
have_forms high (w ∷ ws) all = (has_form high w (All-head (IsMultiple high) w ws all), have_forms high ws (All-tail (IsMultiple high) w ws all))
