-- Numbering atoms one after another, and why one is refused.
use Rattle.std.specs.Prelude.{◌≡◌, ◌⊎◌, ℕ, ◌<◌, Bool, List, All, Contains, true, ℤ}
use Rattle.fraction128.specs.Whole.{InRange}
use Rattle.smt_meaning.specs.declared.clauses.Summand.{Summand}
use Rattle.smt_meaning.specs.declared.clauses.Atom.{Atom}
use Rattle.smt_meaning.specs.declared.clauses.Atom.TheVariants.{Truth as TruthAtom, Same as SameAtom, AtMost}
use Rattle.smt_meaning.specs.Linear.{sum_fits}
use Rattle.linear_forms.specs.Sums.{IsSum}
use Rattle.smt_meaning.specs.Term.{Tree}
use Rattle.linear_forms.specs.declared.differences.DifferenceError.TheVariants.{Term as FormOfTerm, Pair as FormOfPair}
use Rattle.linear_forms.specs.Differences.{Refuses}
use Rattle.pair_bounds.specs.Pairs.{at_most_fits, below_fits}
use Rattle.pair_bounds.specs.declared.rows.RowLimit.{RowLimit}
use Rattle.pair_bounds.specs.Rows.{IsRowLimit, RefusesLimit, RefusesDivisor}
use Rattle.bound_clauses.specs.declared.orders.Sense.{Sense}
use Rattle.bound_clauses.specs.declared.orders.Sense.TheVariants.{NotAbove, Below}
use Rattle.bound_clauses.specs.declared.orders.Order.{Order}
use Rattle.check_atoms.specs.declared.refusal.Refusal.{Refusal}
use Rattle.check_atoms.specs.declared.refusal.Refusal.TheVariants.{Term, Pair, Limit, Memory}
use Rattle.check_atoms.specs.declared.part.PartAtom.{PartAtom}
use Rattle.check_atoms.specs.declared.part.PartAtom.TheVariants.{Truth, Same, Bound, Limit as LimitAtom}

-- the sum has ascending places below a count, each with a coefficient that isn't 0, and all numbers are in the range
pub record IsNormalBound (count : ℕ) (sum : List Summand) (threshold : ℤ) : Type 0 where
  pub is_sum : IsSum count sum
  pub coefficients : sum_fits sum ≡ true
  pub in_range : InRange threshold

-- the atom is no bound, or such a one
abbrev pub IsNormal : ℕ → Atom → Type 0
IsNormal count (TruthAtom p) = Unit {0}
IsNormal count (SameAtom i j) = Unit {0}
IsNormal count (AtMost sum k) = IsNormalBound count sum k

-- these atoms are numbered, beside those that were before
pub record Adds (count : ℕ) (old atoms new : List Atom) : Type 0 where
  pub normal : All (IsNormal count) atoms
  pub these : All (Contains new) atoms
  pub stay : (a : Atom) → Contains old a → Contains new a
  pub only : (a : Atom) → Contains new a → Contains old a ⊎ Contains atoms a

-- whether folding the bound of two terms stays in the range
abbrev pub fits_by : Sense → List Tree → Tree → Tree → Bool
fits_by NotAbove = at_most_fits
fits_by Below = below_fits

-- folding the bound that says an order at this place leaves the range: by itself, or a folding of one of its terms does at this part
abbrev pub RefusesOrder : List Tree → ℕ → Order → Refusal → Type 0
RefusesOrder ts place o (Term part) = Refuses ts (fits_by o.sense ts) o.lesser o.greater (FormOfTerm part)
RefusesOrder ts place o (Pair p q) = (p ≡ place) × (q ≡ o) × Refuses ts (fits_by o.sense ts) o.lesser o.greater FormOfPair
RefusesOrder ts place o (Limit p) = ⊥
RefusesOrder ts place o Memory = ⊥

-- folding this limit of a division at this place leaves the range: by itself, or a folding of one of its terms does at this part
abbrev pub RefusesRow : List Tree → ℕ → RowLimit → Refusal → Type 0
RefusesRow ts place l (Term part) = RefusesLimit ts l (FormOfTerm part)
RefusesRow ts place l (Pair p q) = ⊥
RefusesRow ts place l (Limit p) = (p ≡ place) × RefusesLimit ts l FormOfPair
RefusesRow ts place l Memory = ⊥

-- one of these bounds is refused
pub record RefusesBound (ts : List Tree) (place : ℕ) (atoms : List PartAtom) (e : Refusal) : Type 0 where
  pub order : Order
  pub among : Contains atoms (Bound order)
  pub refuses : RefusesOrder ts place order e

-- one of these limits is refused
pub record RefusesRows (ts : List Tree) (place : ℕ) (atoms : List PartAtom) (e : Refusal) : Type 0 where
  pub limit : RowLimit
  pub among : Contains atoms (LimitAtom limit)
  pub refuses : RefusesRow ts place limit e

-- folding the divisor of a division of the terms at these places, at this place, leaves the range at this part, or its number isn't in the range
abbrev pub RefusesDivision : List Tree → ℕ → List ℕ → Refusal → Type 0
RefusesDivision ts place is (Term part) = RefusesDivisor ts is (FormOfTerm part)
RefusesDivision ts place is (Pair p q) = ⊥
RefusesDivision ts place is (Limit p) = (p ≡ place) × RefusesDivisor ts is FormOfPair
RefusesDivision ts place is Memory = ⊥

-- memory is wanting, or one of these is refused
abbrev pub RefusesOne : List Tree → ℕ → List PartAtom → Refusal → Type 0
RefusesOne ts place atoms e = (e ≡ Memory) ⊎ (RefusesBound ts place atoms e ⊎ RefusesRows ts place atoms e)

-- the terms of a bound are among the first so many, and the numbers of a limit in the range
abbrev pub IsWithin : ℕ → PartAtom → Type 0
IsWithin count (Truth p) = Unit {0}
IsWithin count (Same i j) = Unit {0}
IsWithin count (Bound o) = (o.lesser < count) × (o.greater < count)
IsWithin count (LimitAtom l) = IsRowLimit count l
