-- Why the clauses of a part can't be put.
use Rattle.std.specs.Prelude.{◌≡◌, ℕ, ◌⊎◌, Bool, List, All, Contains, IsTrue}
use Rattle.smt_meaning.specs.declared.values.Sort.{Sort}
use Rattle.smt_meaning.specs.declared.terms.Operator.{Operator}
use Rattle.smt_meaning.specs.declared.clauses.Atom.{Atom}
use Rattle.smt_meaning.specs.Term.{Tree}
use Rattle.linear_forms.specs.declared.differences.DifferenceError.{DifferenceError}
use Rattle.linear_forms.specs.declared.differences.DifferenceError.TheVariants.{Term as DifferenceTerm, Pair as DifferencePair, Memory as DifferenceMemory}
use Rattle.linear_forms.specs.Differences.{Refuses}
use Rattle.pair_bounds.specs.Pairs.{at_most_fits, below_fits}
use Rattle.pair_bounds.specs.declared.rows.RowLimit.{RowLimit}
use Rattle.pair_bounds.specs.Rows.{RefusesDivisor, RefusesLimit}
use Rattle.bound_clauses.specs.declared.orders.Sense.{Sense}
use Rattle.bound_clauses.specs.declared.orders.Sense.TheVariants.{NotAbove, Below}
use Rattle.bound_clauses.specs.declared.orders.Order.{Order}
use Rattle.order_clauses.specs.declared.error.PartError.{PartError}
use Rattle.order_clauses.specs.declared.error.PartError.TheVariants.{Missing, Term, Pair, Limit, Memory}
use Rattle.order_clauses.specs.Clauses.{has_rows}
use Rattle.order_clauses.specs.Needed.{orders_of_part, limits_of_division, atoms_of_division, atoms_of_part}

-- a refusal to fold the divisor of a division, or a limit of its rows, is passed on
abbrev pub passed_on : DifferenceError → PartError
passed_on (DifferenceTerm part) = Term part
passed_on DifferencePair = Limit
passed_on DifferenceMemory = Memory

abbrev pub order_fits : Sense → List Tree → Tree → Tree → Bool
order_fits NotAbove = at_most_fits
order_fits Below = below_fits

-- folding the bound of an order is refused
abbrev pub RefusesFolding : List Tree → Order → DifferenceError → Type 0
RefusesFolding ts o e = Refuses ts (order_fits o.sense ts) o.lesser o.greater e

-- folding the bound of an order leaves the range: by itself, or a folding of one of its terms does at this part
abbrev pub RefusesOrder : List Tree → Order → PartError → Type 0
RefusesOrder ts o Missing = ⊥
RefusesOrder ts o (Term part) = RefusesFolding ts o (DifferenceTerm part)
RefusesOrder ts o (Pair q) = (q ≡ o) × RefusesFolding ts o DifferencePair
RefusesOrder ts o Limit = ⊥
RefusesOrder ts o Memory = ⊥

-- folding the bound of one of these orders does
pub record IsRefused (ts : List Tree) (os : List Order) (e : PartError) : Type 0 where
  pub order : Order
  pub among : Contains os order
  pub refuses : RefusesOrder ts order e

-- why clauses over these atoms can't be put, where what they need is refused so
abbrev pub IsCauseBy : List Atom → (PartError → Type 0) → List Atom → PartError → Type 0
IsCauseBy table Refused atoms Missing = All (Contains table) atoms → ⊥
IsCauseBy table Refused atoms (Term part) = Refused (Term part)
IsCauseBy table Refused atoms (Pair o) = Refused (Pair o)
IsCauseBy table Refused atoms Limit = Refused Limit
IsCauseBy table Refused atoms Memory = Unit {0}

-- why clauses over these atoms, among them the bounds of these orders, can't be put
abbrev pub IsCause : List Tree → List Atom → List Order → List Atom → PartError → Type 0
IsCause ts table os = IsCauseBy table (IsRefused ts os)

-- ---- of divisions

-- folding a limit leaves the range: by itself, or a folding of one of its terms does at this part
abbrev pub RefusesRow : List Tree → RowLimit → PartError → Type 0
RefusesRow ts l Missing = ⊥
RefusesRow ts l (Term part) = RefusesLimit ts l (DifferenceTerm part)
RefusesRow ts l (Pair o) = ⊥
RefusesRow ts l Limit = RefusesLimit ts l DifferencePair
RefusesRow ts l Memory = ⊥

-- folding the bound of one of these limits does
pub record IsLimitRefused (ts : List Tree) (ls : List RowLimit) (e : PartError) : Type 0 where
  pub limit : RowLimit
  pub among : Contains ls limit
  pub refuses : RefusesRow ts limit e

-- why clauses over these atoms, among them the bounds of these limits, can't be put
abbrev pub IsLimitCause : List Tree → List Atom → List RowLimit → List Atom → PartError → Type 0
IsLimitCause ts table ls = IsCauseBy table (IsLimitRefused ts ls)

-- folding the divisor of the terms at these places leaves the range at this part, or its number isn't in the range
abbrev pub RefusesNumber : List Tree → List ℕ → PartError → Type 0
RefusesNumber ts is Missing = ⊥
RefusesNumber ts is (Term part) = RefusesDivisor ts is (DifferenceTerm part)
RefusesNumber ts is (Pair o) = ⊥
RefusesNumber ts is Limit = RefusesDivisor ts is DifferencePair
RefusesNumber ts is Memory = ⊥

-- folding the divisor of the terms at these places is refused, or one of these bounds
abbrev pub RefusesDivision : List Tree → List ℕ → List RowLimit → PartError → Type 0
RefusesDivision ts is ls e = RefusesNumber ts is e ⊎ IsLimitRefused ts ls e

abbrev pub IsDivisionCause : List Tree → List Atom → Operator → ℕ → List ℕ → PartError → Type 0
IsDivisionCause ts table o p is = IsCauseBy table (RefusesDivision ts is (limits_of_division ts o p is)) (atoms_of_division ts o p is)

-- ---- of parts

-- folding the bound of one of the orders of the term at a place is refused, or, where it is a division, its divisor or the bound of one of its limits
abbrev pub RefusesOfPart : List Sort → List Tree → Operator → ℕ → List ℕ → PartError → Type 0
RefusesOfPart sorts ts o p is e = IsRefused ts (orders_of_part sorts o p is) e ⊎ (IsTrue (has_rows o) × RefusesDivision ts is (limits_of_division ts o p is) e)

-- why the clauses of the term at a place can't be put
abbrev pub IsPartCause : List Sort → List Tree → List Atom → Operator → ℕ → List ℕ → PartError → Type 0
IsPartCause sorts ts table o p is = IsCauseBy table (RefusesOfPart sorts ts o p is) (atoms_of_part sorts ts o p is)
