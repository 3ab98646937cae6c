-- Folding the form of a term from those of its arguments.
use Rattle.std.specs.Prelude.{◌≡◌, ℕ, ◌+◌, Bool, true, false, List, [], ◌∷◌, ℤ, pos}
use Rattle.smt_meaning.specs.declared.clauses.Summand.{Summand}
use Rattle.smt_meaning.specs.declared.terms.Head.{Head}
use Rattle.smt_meaning.specs.Linear.{Form, summand, form_plus, form_minus, form_product, form_fits, number_form, folded, folded_fits, fold_forms, folds_fit, difference_form, head_form, head_folding_fits, sum_fits}
use Rattle.linear_forms.specs.declared.coefficients.Coefficient.{Coefficient}
use Rattle.linear_forms.specs.Sums.{IsSum}
use Rattle.linear_forms.specs.Scratch.{HasCoefficients}

abbrev pub form_of : List Summand → ℤ → Form
form_of ps k = record { sum = ps; constant = k }

-- ---- sums and differences

abbrev pub combine : Bool → Form → Form → Form
combine true f g = form_minus f g
combine false f g = form_plus f g

abbrev pub combined_form : Bool → List Form → Form
combined_form true fs = difference_form fs
combined_form false fs = folded form_plus fs

abbrev pub combined_fits : Bool → List Form → Bool
combined_fits true fs = folded_fits form_minus fs
combined_fits false fs = folded_fits form_plus fs

-- the coefficients are those of a form with this constant
pub record Holds (vs : List Coefficient) (constant : ℤ) (f : Form) : Type 0 where
  pub constant_is : constant ≡ f.constant
  pub coefficients : HasCoefficients vs f.sum

-- while forms are added up: the form so far, which the rest makes the whole
pub record IsFolding (bound : ℕ) (subtract : Bool) (fs rest : List Form) (vs : List Coefficient) (constant : ℤ) : Type 0 where
  pub so_far : Form
  pub is_sum : IsSum bound so_far.sum
  pub holds : Holds vs constant so_far
  pub in_range : form_fits so_far ≡ true
  pub whole : fold_forms (combine subtract) so_far rest ≡ combined_form subtract fs
  pub fits : folds_fit (combine subtract) so_far rest ≡ combined_fits subtract fs

-- forms are added up
pub record IsCombined (bound : ℕ) (subtract : Bool) (fs : List Form) (vs : List Coefficient) (constant : ℤ) : Type 0 where
  pub fits : combined_fits subtract fs ≡ true
  pub is_sum : IsSum bound (combined_form subtract fs).sum
  pub holds : Holds vs constant (combined_form subtract fs)
  pub ranges : sum_fits (combined_form subtract fs).sum ≡ true

-- ---- products

-- while forms are multiplied
pub record IsMultiplying (fs rest : List Form) (f : Form) : Type 0 where
  pub in_range : form_fits f ≡ true
  pub whole : fold_forms form_product f rest ≡ fold_forms form_product (number_form (pos 1)) fs
  pub fits : folds_fit form_product f rest ≡ folds_fit form_product (number_form (pos 1)) fs

-- ---- whole terms

abbrev pub leaf_at : ℕ → Form
leaf_at place = form_of (summand place (pos 1) ∷ []) (pos 0)

pub record IsFolded (head : Head) (fs : List Form) (place : ℕ) (f : Form) : Type 0 where
  pub fits : head_folding_fits head fs ≡ true
  pub whole : f ≡ head_form head fs (leaf_at place)
  pub is_sum : IsSum (place + 1) f.sum
  pub ranges : sum_fits f.sum ≡ true
