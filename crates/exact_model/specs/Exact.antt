-- Exact values of terms: those of sums aren't bounded.
use Rattle.std.specs.Prelude.{◌≡◌, ℕ, ◌<◌, Bool, true, false, List, length, ℤ, Some, slice_index_or, if◌then◌else◌}
use Rattle.smt_meaning.specs.declared.values.Value.{Value}
use Rattle.smt_meaning.specs.declared.values.Value.TheVariants.{Truth, Whole}
use Rattle.smt_meaning.specs.declared.values.Sort.{Sort}
use Rattle.smt_meaning.specs.declared.values.Sort.TheVariants.{Bool as Truths}
use Rattle.smt_meaning.specs.Term.{Tree, node, tree_at, number_of, in_range}
use Rattle.smt_meaning.specs.TreeShape.{place_of}
use Rattle.smt_meaning.specs.Declaration.{Declaration}
use Rattle.smt_meaning.specs.Signature.{tree_sort}
use Rattle.smt_meaning.specs.Linear.{linear_form, folding_fits}
use Rattle.smt_meaning.specs.CheckAtoms.{is_leaf, is_leaf_head}
use Rattle.smt_meaning.specs.Ranges.{form_at}
use Rattle.linear_forms.specs.Table.{Known, AreForms}
use Rattle.model_build.specs.declared.given.Given.{Given}
use Rattle.model_build.specs.declared.given.Given.TheVariants.{Unmarked, InRange, PastRange}
use Rattle.model_build.specs.Given.{given_at, is_past}
use Rattle.model_build.specs.Building.{is_given_of, HasOperatorsValue}

-- the value that is listed for a place
abbrev pub listed : List Value → ℕ → Value
listed vs p = slice_index_or vs p (Truth false)

abbrev pub number_at : List Value → ℕ → ℤ
number_at vs p = number_of (listed vs p)

-- a numeral, sum, difference or product has the value of its linear form at the numbers that are listed, another term the value that is listed for its place
unfoldable pub exact : List Tree → List Value → Tree → Value
exact ts vs (node h us) = if is_leaf_head h then listed vs (place_of (node h us) ts) else Whole (form_at (number_at vs) (linear_form ts (node h us)))

unfoldable pub exact_at : List Tree → List Value → ℕ → Value
exact_at ts vs p = exact ts vs (tree_at ts p)

-- linear forms of these terms, and a value for the place of each
pub record AreListed (ts : List Tree) (known : List Known) (vs : List Value) : Type 0 where
  pub forms : AreForms ts known
  pub size : length vs ≡ length ts

-- ---- what places are given

abbrev pub is_marked_in : List Bool → ℕ → Bool
is_marked_in marks p = slice_index_or marks p false

-- the value, or past the range
abbrev pub given_of : Value → Given
given_of v = if in_range v then InRange v else PastRange

-- what a place is given by its mark: the exact value of its term, or nothing
abbrev pub given_there : List Tree → List Bool → List Value → ℕ → Given
given_there ts marks vs p = if is_marked_in marks p then given_of (exact_at ts vs p) else Unmarked

-- that is of the kept sort where the place is marked, and only a sum's is past the range
pub record IsPlaceGiven (ts : List Tree) (marks : List Bool) (sorts : List Sort) (vs : List Value) (p : ℕ) (g : Given) : Type 0 where
  pub exact : g ≡ given_there ts marks vs p
  pub sorted : is_marked_in marks p ≡ true → is_given_of g (slice_index_or sorts p Truths) ≡ true
  pub inside : is_leaf (tree_at ts p) ≡ true → is_past g ≡ false

pub record AreGivenExactly (ts : List Tree) (marks : List Bool) (sorts : List Sort) (vs : List Value) (gs : List Given) : Type 0 where
  pub size : length gs ≡ length ts
  pub each : (p : ℕ) → p < length ts → IsPlaceGiven ts marks sorts vs p (given_at gs p)

-- ---- what it needs that each place can be given its term's exact value

-- the value that is listed for a marked place is of its term's sort, and in the range
abbrev pub MayBeGiven : List Declaration → List Tree → List Bool → List Value → Type 0
MayBeGiven ds ts marks vs =
    (p : ℕ) (r : Sort) → p < length ts → is_marked_in marks p ≡ true → tree_sort ds (tree_at ts p) ≡ Some r → is_given_of (InRange (listed vs p)) r ≡ true

-- the folding of each marked term's form stays in the range
abbrev pub AllFold : List Tree → List Bool → Type 0
AllFold ts marks = (p : ℕ) → is_marked_in marks p ≡ true → folding_fits ts (tree_at ts p) ≡ true

-- each marked term has the exact value that its operator makes
abbrev pub HaveOperatorsValues : List Tree → List Bool → List Value → Type 0
HaveOperatorsValues ts marks vs = (p : ℕ) → is_marked_in marks p ≡ true → HasOperatorsValue (exact ts vs) (tree_at ts p)

-- ---- no public contract speaks of it

-- the first places are given so
abbrev pub AllGiven : List Tree → List Bool → List Value → ℕ → List Given → Type 0
AllGiven ts marks vs count gs = (p : ℕ) → p < count → given_at gs p ≡ given_there ts marks vs p

pub record ArePlacesGiven (ts : List Tree) (marks : List Bool) (vs : List Value) (gs : List Given) : Type 0 where
  pub size : length gs ≡ length ts
  pub each : AllGiven ts marks vs (length ts) gs
