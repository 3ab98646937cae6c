-- Forms folded from the left.
use Rattle.std.proofs.Common.{◌≡◌, ◌≢◌, ℕ, zero, suc, Bool, true, false, ◌&&◌, List, [], ◌∷◌, length, subst, sym, ap, ◌∙◌, refl, arith}
use Rattle.std.specs.Prelude.{ℤ, pos, negsuc, ◌+ℤ◌, ◌*ℤ◌, neg_ℤ, unsigned_abs}
use Rattle.fraction128.specs.Whole.{InRange, is_in_range}
use Rattle.smt_laws.proofs.Both.{and_left, and_right, and_both}
use Rattle.smt_meaning.specs.Linear.{Form, form_times, form_plus, form_minus, form_fits, sum_fits, sum_times, fold_forms, folds_fit}
use Rattle.linear_forms.specs.declared.coefficients.Coefficient.{Coefficient}
use Rattle.linear_forms.specs.Sums.{coefficient_of, IsSum, signed}
use Rattle.linear_forms.specs.Scratch.{AreRanged, AreTouched, AreZero, IsAdded, LeavesRange}
use Rattle.linear_forms.specs.Folding.{combine, combined_fits, Holds, IsFolding, IsCombined}
use Rattle.linear_forms.proofs.SumLemmas.{none_plus, sums_added_sum, sums_added_at, sum_times_sum, sum_times_at, fits_in_range, in_range_fits, coefficient_in_range, in_range_sum}
use Rattle.linear_forms.proofs.ScratchLemmas.{minus_one}

pub false_if : (b : Bool) → (b ≡ true → ⊥) → b ≡ false
false_if true h = absurd (h refl)
false_if false h = refl

pub after_true : (b c d : Bool) → b ≡ true → (b && c) ≡ d → c ≡ d
after_true true c d e h = h
after_true false c d e h = absurd (cc)

pub form_constant : (f : Form) → form_fits f ≡ true → InRange f.constant
form_constant f h = fits_in_range f.constant (and_right (sum_fits f.sum) (is_in_range f.constant) h)

pub form_coefficient : (f : Form) (i : ℕ) → form_fits f ≡ true → InRange (coefficient_of f.sum i)
form_coefficient f i h = coefficient_in_range f.sum i (and_left (sum_fits f.sum) (is_in_range f.constant) h)

pub folds_unfit : (op : Form → Form → Form) (f : Form) (rest : List Form) → form_fits f ≡ false → folds_fit op f rest ≡ false
folds_unfit op f [] e = e
folds_unfit op f (g ∷ gs) e = ap (λ b. b && folds_fit op (op f g) gs) e

pub folds_end : (op : Form → Form → Form) (f : Form) (rest : List Form) → folds_fit op f rest ≡ true → form_fits (fold_forms op f rest) ≡ true
folds_end op f [] e = e
folds_end op f (g ∷ gs) e = folds_end op (op f g) gs (and_right (form_fits f) (folds_fit op (op f g) gs) e)

-- ---- a form more

module _ (bound : ℕ) (s : Bool) (f g : Form) (a : IsSum bound f.sum) (b : IsSum bound g.sum) where
  pub combine_sum : IsSum bound (combine s f g).sum
  combine_sum = by s
    where
      by : (s : Bool) → IsSum bound (combine s f g).sum
      by true = sums_added_sum bound f.sum (sum_times (negsuc 0) g.sum) a (sum_times_sum bound (negsuc 0) g.sum b)
      by false = sums_added_sum bound f.sum g.sum a b

  combine_at : (i : ℕ) → coefficient_of (combine s f g).sum i ≡ coefficient_of f.sum i +ℤ signed s (coefficient_of g.sum i)
  combine_at i = by s
    where
      by : (s : Bool) → coefficient_of (combine s f g).sum i ≡ coefficient_of f.sum i +ℤ signed s (coefficient_of g.sum i)
      by true =
          sums_added_at bound f.sum (sum_times (negsuc 0) g.sum) i a (sum_times_sum bound (negsuc 0) g.sum b) ∙ ap (λ z. coefficient_of f.sum i +ℤ z) (sum_times_at (negsuc 0) g.sum i)
      by false = sums_added_at bound f.sum g.sum i a b

  combine_constant : (combine s f g).constant ≡ f.constant +ℤ signed s g.constant
  combine_constant = by s
    where
      by : (s : Bool) → (combine s f g).constant ≡ f.constant +ℤ signed s g.constant
      by true = refl
      by false = refl

  module _ (vs : List Coefficient) (k : ℤ) (h : Holds vs k f) where
    pub combine_holds : (us : List Coefficient) (n : ℤ) → IsAdded s vs us g.sum → n ≡ k +ℤ signed s g.constant → Holds us n (combine s f g)
    combine_holds us n added e = record {
      constant_is = e ∙ ap (λ z. z +ℤ signed s g.constant) h.constant_is ∙ sym combine_constant;
      coefficients = λ i. added i ∙ ap (λ z. z +ℤ signed s (coefficient_of g.sum i)) (h.coefficients i) ∙ sym (combine_at i);
    }

    pub constant_unfit : (InRange (k +ℤ signed s g.constant) → ⊥) → form_fits (combine s f g) ≡ false
    constant_unfit out =
        false_if (form_fits (combine s f g))
        (λ fits. out (subst InRange (combine_constant ∙ ap (λ z. z +ℤ signed s g.constant) (sym h.constant_is)) (form_constant (combine s f g) fits)))

    pub sum_unfit : LeavesRange s vs g.sum → form_fits (combine s f g) ≡ false
    sum_unfit l =
        false_if (form_fits (combine s f g))
        (λ fits. l.outside (subst InRange (combine_at l.place ∙ ap (λ z. z +ℤ signed s (coefficient_of g.sum l.place)) (sym (h.coefficients l.place))) (form_coefficient (combine s f g) l.place fits)))

pub holds_fits : (bound : ℕ) (vs : List Coefficient) (n : ℤ) (f : Form) → IsSum bound f.sum → Holds vs n f → AreRanged vs → InRange n → form_fits f ≡ true
holds_fits bound vs n f a h r m =
    and_both (sum_fits f.sum) (is_in_range f.constant) (in_range_sum 0 bound f.sum a (λ i. subst InRange (h.coefficients i) (r i))) (in_range_fits f.constant (subst InRange h.constant_is m))

-- ---- the first form

module _ (f : Form) (vs us : List Coefficient) (n : ℤ) (blank : AreZero vs) where
  pub first_holds : IsAdded false vs us f.sum → n ≡ pos 0 +ℤ f.constant → Holds us n f
  first_holds added e = record {
    constant_is = e ∙ none_plus f.constant;
    coefficients = λ i. added i ∙ ap (λ z. z +ℤ coefficient_of f.sum i) (blank i) ∙ none_plus (coefficient_of f.sum i);
  }

  pub negation_holds : IsAdded true vs us f.sum → n ≡ pos 0 +ℤ signed true f.constant → Holds us n (form_times (negsuc 0) f)
  negation_holds added e = record {
    constant_is = e ∙ none_plus (signed true f.constant);
    coefficients = λ i.
        added i ∙ ap (λ z. z +ℤ signed true (coefficient_of f.sum i)) (blank i) ∙ none_plus (signed true (coefficient_of f.sum i)) ∙ sym (sum_times_at (negsuc 0) f.sum i);
  }

pub first_constant_unfit : (f : Form) → (InRange (pos 0 +ℤ f.constant) → ⊥) → form_fits f ≡ false
first_constant_unfit f out = false_if (form_fits f) (λ fits. out (subst InRange (sym (none_plus f.constant)) (form_constant f fits)))

pub first_sum_unfit : (f : Form) (vs : List Coefficient) → AreZero vs → LeavesRange false vs f.sum → form_fits f ≡ false
first_sum_unfit f vs blank l =
    false_if (form_fits f)
    (λ fits. l.outside (subst InRange (sym (ap (λ z. z +ℤ coefficient_of f.sum l.place) (blank l.place) ∙ none_plus (coefficient_of f.sum l.place))) (form_coefficient f l.place fits)))

abs_negated : (z : ℤ) → unsigned_abs (negsuc 0 *ℤ z) ≡ unsigned_abs z
abs_negated z = ap unsigned_abs (minus_one z) ∙ by z
  where
    by : (z : ℤ) → unsigned_abs (neg_ℤ z) ≡ unsigned_abs z
    by (pos zero) = refl
    by (pos (suc n)) = refl
    by (negsuc n) = refl

pub negated_in_range : (z : ℤ) → InRange z → InRange (signed true z)
negated_in_range z h = let e = abs_negated z in omega arith

pub in_range_negated : (z : ℤ) → InRange (signed true z) → InRange z
in_range_negated z h = let e = abs_negated z in omega arith

pub negated_constant_unfit : (f : Form) → (InRange (pos 0 +ℤ signed true f.constant) → ⊥) → form_fits f ≡ false
negated_constant_unfit f out =
    false_if (form_fits f) (λ fits. out (subst InRange (sym (none_plus (signed true f.constant))) (negated_in_range f.constant (form_constant f fits))))

pub negated_sum_unfit : (f : Form) (vs : List Coefficient) → AreZero vs → LeavesRange true vs f.sum → form_fits f ≡ false
negated_sum_unfit f vs blank l =
    false_if (form_fits f)
    (λ fits. l.outside (subst InRange (sym (ap (λ z. z +ℤ signed true (coefficient_of f.sum l.place)) (blank l.place) ∙ none_plus (signed true (coefficient_of f.sum l.place))))
    (negated_in_range (coefficient_of f.sum l.place) (form_coefficient f l.place fits))))

-- ---- sums and differences

module _ (bound : ℕ) where
  pub combined_none : (s : Bool) (vs : List Coefficient) → AreZero vs → IsCombined bound s [] vs (pos 0)
  combined_none true vs blank = record { fits = refl; is_sum = tt; holds = record { constant_is = refl; coefficients = blank }; ranges = refl }
  combined_none false vs blank = record { fits = refl; is_sum = tt; holds = record { constant_is = refl; coefficients = blank }; ranges = refl }

  pub combined_negation : (f : Form) (vs : List Coefficient) (n : ℤ) → IsSum bound f.sum → Holds vs n (form_times (negsuc 0) f) → AreRanged vs → InRange n → IsCombined bound true (f ∷ []) vs n
  combined_negation f vs n a h r m =
      let g : Form = form_times (negsuc 0) f in
      let b : IsSum bound g.sum = sum_times_sum bound (negsuc 0) f.sum a in
      record {
        fits = and_both (sum_fits f.sum) (is_in_range f.constant)
            (in_range_sum 0 bound f.sum a (λ i. in_range_negated (coefficient_of f.sum i) (subst InRange (h.coefficients i ∙ sum_times_at (negsuc 0) f.sum i) (r i))))
            (in_range_fits f.constant (in_range_negated f.constant (subst InRange h.constant_is m)));
        is_sum = b;
        holds = h;
        ranges = and_left (sum_fits g.sum) (is_in_range g.constant) (holds_fits bound vs n g b h r m);
      }

  pub folding_start : (s : Bool) (f : Form) (rest : List Form) (vs : List Coefficient) (n : ℤ) → (s ≡ true → rest ≢ []) → IsSum bound f.sum → Holds vs n f → AreRanged vs → InRange n → IsFolding bound s (f ∷ rest) rest vs n
  folding_start true f [] vs n other a h r m = absurd (other refl refl)
  folding_start true f (g ∷ gs) vs n other a h r m = record { so_far = f; is_sum = a; holds = h; in_range = holds_fits bound vs n f a h r m; whole = refl; fits = refl }
  folding_start false f rest vs n other a h r m = record { so_far = f; is_sum = a; holds = h; in_range = holds_fits bound vs n f a h r m; whole = refl; fits = refl }

  pub start_unfit : (s : Bool) (f : Form) (rest : List Form) → form_fits f ≡ false → combined_fits s (f ∷ rest) ≡ false
  start_unfit true f rest e = folds_unfit form_minus f rest e
  start_unfit false f rest e = folds_unfit form_plus f rest e

  module _ (s : Bool) (fs : List Form) (g : Form) (rest : List Form) (vs : List Coefficient) (k : ℤ) (f : IsFolding bound s fs (g ∷ rest) vs k) (b : IsSum bound g.sum) where
    pub folding_step : (us : List Coefficient) (n : ℤ) → IsAdded s vs us g.sum → n ≡ k +ℤ signed s g.constant → AreRanged us → InRange n → IsFolding bound s fs rest us n
    folding_step us n added e r m =
        let a : IsSum bound (combine s f.so_far g).sum = combine_sum bound s f.so_far g f.is_sum b in
        let h : Holds us n (combine s f.so_far g) = combine_holds bound s f.so_far g f.is_sum b vs k f.holds us n added e in
        record {
          so_far = combine s f.so_far g;
          is_sum = a;
          holds = h;
          in_range = holds_fits bound us n (combine s f.so_far g) a h r m;
          whole = f.whole;
          fits = after_true (form_fits f.so_far) (folds_fit (combine s) (combine s f.so_far g) rest) (combined_fits s fs) f.in_range f.fits;
        }

    step_unfit : form_fits (combine s f.so_far g) ≡ false → combined_fits s fs ≡ false
    step_unfit e =
        sym (after_true (form_fits f.so_far) (folds_fit (combine s) (combine s f.so_far g) rest) (combined_fits s fs) f.in_range f.fits)
        ∙ folds_unfit (combine s) (combine s f.so_far g) rest e

    pub step_constant_unfit : (InRange (k +ℤ signed s g.constant) → ⊥) → combined_fits s fs ≡ false
    step_constant_unfit out = step_unfit (constant_unfit bound s f.so_far g f.is_sum b vs k f.holds out)

    pub step_sum_unfit : LeavesRange s vs g.sum → combined_fits s fs ≡ false
    step_sum_unfit l = step_unfit (sum_unfit bound s f.so_far g f.is_sum b vs k f.holds l)

  pub folding_end : (s : Bool) (fs : List Form) (vs : List Coefficient) (n : ℤ) → IsFolding bound s fs [] vs n → IsCombined bound s fs vs n
  folding_end s fs vs n f = record {
    fits = sym f.fits ∙ f.in_range;
    is_sum = subst (λ (x : Form). IsSum bound x.sum) f.whole f.is_sum;
    holds = subst (Holds vs n) f.whole f.holds;
    ranges = subst (λ (x : Form). sum_fits x.sum ≡ true) f.whole (and_left (sum_fits f.so_far.sum) (is_in_range f.so_far.constant) f.in_range);
  }

-- what the loop over the other forms keeps
pub record FoldsOn (bound : ℕ) (s : Bool) (fs rest : List Form) (vs : List Coefficient) (is : List ℕ) (n : ℤ) : Type 0 where
  pub folding : IsFolding bound s fs rest vs n
  pub ranged : AreRanged vs
  pub touched : AreTouched vs is
  pub size : length vs ≡ bound
