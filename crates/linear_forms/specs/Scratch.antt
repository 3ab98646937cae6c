-- The coefficients by place while a form is folded. No public contract speaks of them.
use Rattle.std.specs.Prelude.{◌≡◌, ◌≢◌, ℕ, ◌<◌, Bool, List, length, take, ◌≤◌, All, Contains, ℤ, pos, ◌+ℤ◌, slice_index, slice_index_or}
use Rattle.fraction128.specs.Whole.{InRange}
use Rattle.smt_meaning.specs.declared.clauses.Summand.{Summand}
use Rattle.linear_forms.specs.declared.coefficients.Coefficient.{Coefficient}
use Rattle.linear_forms.specs.Sums.{coefficient_of, IsSum, signed}

abbrev pub cell : ℤ → Coefficient
cell z = record { value = z }

-- the coefficient at a place, 0 past the end
abbrev pub at : List Coefficient → ℕ → ℤ
at vs i = (slice_index_or vs i (cell (pos 0))).value

abbrev pub AreRanged : List Coefficient → Type 0
AreRanged vs = (i : ℕ) → InRange (at vs i)

abbrev pub AreZero : List Coefficient → Type 0
AreZero vs = (i : ℕ) → at vs i ≡ pos 0

-- every place with a coefficient that isn't 0 is listed
abbrev pub AreListed : List Coefficient → List ℕ → Type 0
AreListed vs is = (i : ℕ) → at vs i ≢ pos 0 → Contains is i

pub record AreTouched (vs : List Coefficient) (is : List ℕ) : Type 0 where
  pub within : All (λ i. i < length vs) is
  pub listed : AreListed vs is

abbrev pub HasCoefficients : List Coefficient → List Summand → Type 0
HasCoefficients vs ps = (i : ℕ) → at vs i ≡ coefficient_of ps i

-- a sum, or its negation, is added
abbrev pub IsAdded : Bool → List Coefficient → List Coefficient → List Summand → Type 0
IsAdded negated old new ps = (i : ℕ) → at new i ≡ at old i +ℤ signed negated (coefficient_of ps i)

-- a coefficient of the sum to be leaves the range
pub record LeavesRange (negated : Bool) (old : List Coefficient) (ps : List Summand) : Type 0 where
  pub place : ℕ
  pub outside : InRange (at old place +ℤ signed negated (coefficient_of ps place)) → ⊥

-- from an index on, the list has the place
abbrev pub IsListedFrom : List ℕ → ℕ → ℕ → Type 0
IsListedFrom is k i = (j : ℕ) × (k ≤ j) × (j < length is) × (slice_index is j ≡ i)

-- from an index on, every place with a coefficient that isn't 0 is listed
abbrev pub AreListedFrom : List ℕ → ℕ → List Coefficient → Type 0
AreListedFrom is k vs = (i : ℕ) → at vs i ≢ pos 0 → IsListedFrom is k i

-- ---- while a sum is added

pub record IsAdding (negated : Bool) (old : List Coefficient) (ps : List Summand) (k : ℕ) (vs : List Coefficient) (is : List ℕ) : Type 0 where
  pub added : IsAdded negated old vs (take k ps)
  pub ranged : AreRanged vs
  pub touched : AreTouched vs is
  pub size : length vs ≡ length old

-- ---- while coefficients are taken out in order

pub record IsTakingOut (old : List Coefficient) (is : List ℕ) (k : ℕ) (vs : List Coefficient) (sum : List Summand) : Type 0 where
  pub bound : ℕ
  pub is_sum : IsSum bound sum
  pub parted : (i : ℕ) → coefficient_of sum i +ℤ at vs i ≡ at old i
  pub later : AreListedFrom is k vs
  pub above : (i : ℕ) → at vs i ≢ pos 0 → bound ≤ i
  pub size : length vs ≡ length old

-- ---- while coefficients are set to 0

pub record IsWiping (is : List ℕ) (k count : ℕ) (vs : List Coefficient) : Type 0 where
  pub later : AreListedFrom is k vs
  pub size : length vs ≡ count
