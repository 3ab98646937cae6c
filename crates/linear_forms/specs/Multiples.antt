-- Sums of multiples of terms at places, folded from the right.
use Rattle.std.specs.Prelude.{◌≡◌, ℕ, ◌<◌, true, false, List, map, length, All, Contains, Some, ℤ}
use Rattle.fraction128.specs.Whole.{InRange}
use Rattle.smt_meaning.specs.Term.{Tree, tree_at}
use Rattle.smt_meaning.specs.Linear.{Form, form_fits, folding_fits}
use Rattle.smt_meaning.specs.Division.{combined, combined_fits}
use Rattle.smt_laws.specs.Rows.{place_form}
use Rattle.linear_forms.specs.declared.coefficients.Coefficient.{Coefficient}
use Rattle.linear_forms.specs.declared.differences.DifferenceError.{DifferenceError}
use Rattle.linear_forms.specs.declared.differences.DifferenceError.TheVariants.{Term, Pair, Memory}
use Rattle.linear_forms.specs.declared.multiples.Multiple.{Multiple}
use Rattle.linear_forms.specs.Sums.{IsSum}
use Rattle.linear_forms.specs.Folding.{Holds}
use Rattle.linear_forms.specs.Table.{Known, known_at, IsOutside}

abbrev pub multiple_of : Multiple → ℤ × ℕ
multiple_of m = (m.factor, m.term)

abbrev pub multiples_of : List Multiple → List (ℤ × ℕ)
multiples_of ms = map multiple_of ms

-- the factor is in the range, and the term among the first so many
pub record IsMultiple (count : ℕ) (m : Multiple) : Type 0 where
  pub in_range : InRange m.factor
  pub within : m.term < count

abbrev pub AreMultiples : ℕ → List Multiple → Type 0
AreMultiples count ms = All (IsMultiple count) ms

-- folding each of the terms, and then the sum of the multiples, stays in the range and gives this form
pub record IsCombination (ts : List Tree) (ms : List Multiple) (f : Form) : Type 0 where
  pub terms_fit : All (λ (m : Multiple). folding_fits ts (tree_at ts m.term) ≡ true) ms
  pub fits : combined_fits (place_form ts) (multiples_of ms) ≡ true
  pub form : f ≡ combined (place_form ts) (multiples_of ms)
  pub is_sum : IsSum (length ts) f.sum
  pub ranges : form_fits f ≡ true

-- folding one of the terms leaves the range, at this part
pub record OneIsOutside (ts : List Tree) (ms : List Multiple) (part : ℕ) : Type 0 where
  pub multiple : Multiple
  pub among : Contains ms multiple
  pub outside : IsOutside ts multiple.term part

-- folding each of the terms stays in the range, and folding the sum of the multiples doesn't
pub record LeaveRangeTogether (ts : List Tree) (ms : List Multiple) : Type 0 where
  pub terms_fit : All (λ (m : Multiple). folding_fits ts (tree_at ts m.term) ≡ true) ms
  pub outside : combined_fits (place_form ts) (multiples_of ms) ≡ false

-- why the sum of multiples is refused
abbrev pub RefusesMultiples : List Tree → List Multiple → DifferenceError → Type 0
RefusesMultiples ts ms (Term part) = OneIsOutside ts ms part
RefusesMultiples ts ms Pair = LeaveRangeTogether ts ms
RefusesMultiples ts ms Memory = Unit {0}

-- ---- while they are folded. No public contract speaks of it.

abbrev pub form_in : List Known → ℕ → Form
form_in known p = (known_at known p).form

-- the forms of the terms have places below a bound
abbrev pub AreSumsOf : ℕ → List Known → List Multiple → Type 0
AreSumsOf bound known ms = All (λ (m : Multiple). IsSum bound (form_in known m.term).sum) ms

-- folding one of the terms leaves the range at this part
pub record HasOutsideTerm (known : List Known) (ms : List Multiple) (part : ℕ) : Type 0 where
  pub multiple : Multiple
  pub among : Contains ms multiple
  pub here : (known_at known multiple.term).outside ≡ Some part

-- the multiples are added up
pub record AreAddedUp (bound : ℕ) (form : ℕ → Form) (ms : List Multiple) (vs : List Coefficient) (constant : ℤ) : Type 0 where
  pub fits : combined_fits form (multiples_of ms) ≡ true
  pub is_sum : IsSum bound (combined form (multiples_of ms)).sum
  pub holds : Holds vs constant (combined form (multiples_of ms))
  pub in_range : form_fits (combined form (multiples_of ms)) ≡ true

-- their sum stays in the range and is this form
pub record IsFoldedSum (form : ℕ → Form) (ms : List Multiple) (f : Form) : Type 0 where
  pub fits : combined_fits form (multiples_of ms) ≡ true
  pub whole : f ≡ combined form (multiples_of ms)
