-- The rows of divisions over the places of terms.
use Rattle.std.specs.Prelude.{◌≡◌, ℕ, Bool, true, false, List, [], ◌∷◌, map, flat_map, All, Option, Some, None, ℤ, pos, IsTrue}
use Rattle.std.specs.List.{list_all}
use Rattle.fraction128.specs.Whole.{InRange}
use Rattle.smt_meaning.specs.declared.clauses.Summand.{Summand}
use Rattle.smt_meaning.specs.declared.terms.Operator.{Operator}
use Rattle.smt_meaning.specs.declared.terms.Operator.TheVariants.{Divide, Modulo, Divisible}
use Rattle.smt_meaning.specs.declared.terms.Head.TheVariants.{Theory}
use Rattle.smt_meaning.specs.Term.{Tree, node, tree_at}
use Rattle.smt_meaning.specs.TreeShape.{is_linear}
use Rattle.smt_meaning.specs.Nodes.{pick}
use Rattle.smt_meaning.specs.Linear.{folding_fits}
use Rattle.smt_meaning.specs.Division.{Limit, Row, limit, limit_fits, row_fits, rows_fit, rows_at, operator_rows}
use Rattle.smt_meaning.specs.Atoms.{limit_atom, row_atoms, division_atoms}
use Rattle.smt_laws.specs.Rows.{place_form, place_divisor, placed_rows as rows_by_places}
use Rattle.linear_forms.specs.declared.differences.DifferenceError.{DifferenceError}
use Rattle.linear_forms.specs.declared.differences.DifferenceError.TheVariants.{Term, Pair, Memory}
use Rattle.linear_forms.specs.declared.multiples.Multiple.{Multiple}
use Rattle.linear_forms.specs.Table.{IsOutside}
use Rattle.linear_forms.specs.Multiples.{multiples_of, AreMultiples, OneIsOutside}
use Rattle.pair_bounds.specs.declared.rows.RowLimit.{RowLimit}
use Rattle.pair_bounds.specs.declared.rows.Row.{Row as PlacedRow}
use Rattle.pair_bounds.specs.Pairs.{IsBound}

abbrev pub listed : {A : Type 0} → Option A → List A
listed None = []
listed (Some x) = x ∷ []

abbrev pub multiples : RowLimit → List Multiple
multiples l = l.first ∷ l.second ∷ listed l.third

-- what the limit says of places
abbrev pub limit_of_row : RowLimit → Limit ℕ
limit_of_row l = limit (multiples_of (multiples l)) l.most

abbrev pub limits : PlacedRow → List RowLimit
limits r = r.limit ∷ listed r.other

abbrev pub row_of : PlacedRow → Row ℕ
row_of r = record { truth = r.truth; limits = map limit_of_row (limits r) }

-- ---- and back: a row over places as these numbers hold it

abbrev pub as_multiple : ℤ × ℕ → Multiple
as_multiple m = record { factor = m.0; term = m.1 }

abbrev pub placed_limit : List (ℤ × ℕ) → ℤ → RowLimit
placed_limit (m ∷ n ∷ []) k = record { first = as_multiple m; second = as_multiple n; third = None; most = k }
placed_limit (m ∷ n ∷ o ∷ ms) k = record { first = as_multiple m; second = as_multiple n; third = Some (as_multiple o); most = k }
placed_limit ms k = record { first = as_multiple (pos 0, 0); second = as_multiple (pos 0, 0); third = None; most = k }

abbrev pub placed : Limit ℕ → RowLimit
placed l = placed_limit l.multiples l.most

abbrev pub placed_row_of : Option Bool → List (Limit ℕ) → PlacedRow
placed_row_of b [] = record { truth = b; limit = placed (limit [] (pos 0)); other = None }
placed_row_of b (l ∷ []) = record { truth = b; limit = placed l; other = None }
placed_row_of b (l ∷ k ∷ ls) = record { truth = b; limit = placed l; other = Some (placed k) }

abbrev pub placed_row : Row ℕ → PlacedRow
placed_row r = placed_row_of r.truth r.limits

-- the rows of the term at a place with this operator and the terms at these places as arguments, where the divisor is a number
abbrev pub placed_rows : Operator → ℤ → ℕ → List ℕ → List PlacedRow
placed_rows o n p is = map placed_row (operator_rows o n p is)

-- its numbers are in the range, and its terms among the first so many
pub record IsRowLimit (count : ℕ) (l : RowLimit) : Type 0 where
  pub multiples_are : AreMultiples count (multiples l)
  pub in_range : InRange l.most

abbrev pub IsRow : ℕ → PlacedRow → Type 0
IsRow count r = All (IsRowLimit count) (limits r)

-- ---- the divisor

pub record IsDivisorAt (ts : List Tree) (is : List ℕ) (n : ℤ) : Type 0 where
  pub divisor : n ≡ place_divisor ts is
  pub in_range : InRange n

-- folding the second argument leaves the range, at this part
abbrev pub DivisorIsOutside : List Tree → List ℕ → ℕ → Type 0
DivisorIsOutside ts (a ∷ n ∷ is) part = IsOutside ts n part
DivisorIsOutside ts is part = ⊥

-- folding the second argument stays in the range, and its number isn't in it
abbrev pub DivisorIsLarge : List Tree → List ℕ → Type 0
DivisorIsLarge ts (a ∷ n ∷ is) = (folding_fits ts (tree_at ts n) ≡ true) × (InRange (place_form ts n).constant → ⊥)
DivisorIsLarge ts is = ⊥

-- why the divisor is refused: folding it leaves the range, or its own number does
abbrev pub RefusesDivisor : List Tree → List ℕ → DifferenceError → Type 0
RefusesDivisor ts is (Term part) = DivisorIsOutside ts is part
RefusesDivisor ts is Pair = DivisorIsLarge ts is
RefusesDivisor ts is Memory = ⊥

-- ---- bounds

-- folding the limit stays in the range and gives this bound
pub record IsRowBound (ts : List Tree) (l : RowLimit) (sum : List Summand) (threshold : ℤ) : Type 0 where
  pub terms_fit : All (λ (m : Multiple). folding_fits ts (tree_at ts m.term) ≡ true) (multiples l)
  pub fits : limit_fits (place_form ts) (limit_of_row l) ≡ true
  pub bound : IsBound ts (limit_atom (place_form ts) (limit_of_row l)) sum threshold

-- folding each of its terms stays in the range, and folding the limit doesn't
pub record LimitLeavesRange (ts : List Tree) (l : RowLimit) : Type 0 where
  pub terms_fit : All (λ (m : Multiple). folding_fits ts (tree_at ts m.term) ≡ true) (multiples l)
  pub outside : limit_fits (place_form ts) (limit_of_row l) ≡ false

abbrev pub RefusesLimit : List Tree → RowLimit → DifferenceError → Type 0
RefusesLimit ts l (Term part) = OneIsOutside ts (multiples l) part
RefusesLimit ts l Pair = LimitLeavesRange ts l
RefusesLimit ts l Memory = Unit {0}

-- ---- the rows of a term by places are those of its tree

pub record RowsAreOf (ts : List Tree) (o : Operator) (p : ℕ) (is : List ℕ) : Type 0 where
  pub rows : map row_of (placed_rows o (place_divisor ts is) p is) ≡ rows_by_places ts o p is
  pub atoms : division_atoms ts (Theory o) (pick ts is) ≡ flat_map (row_atoms (place_form ts)) (rows_by_places ts o p is)
  pub fits : rows_fit ts (rows_at ts (Theory o) (pick ts is)) ≡ list_all (row_fits (place_form ts)) (rows_by_places ts o p is)

abbrev pub RowsAreAtoms : Type 0
RowsAreAtoms = (ts : List Tree) (o : Operator) (p : ℕ) (is : List ℕ) → tree_at ts p ≡ node (Theory o) (pick ts is) → RowsAreOf ts o p is

-- ---- a divisor that leaves the range

abbrev pub divides : Operator → Bool
divides Divide = true
divides Modulo = true
divides Divisible = true
divides o = false

-- where the divisor of a linear term isn't in the range, folding its rows leaves it
abbrev pub LargeDivisorLeavesRange : Type 0
LargeDivisorLeavesRange =
    (ts : List Tree) (o : Operator) (p : ℕ) (is : List ℕ) → IsTrue (divides o) → tree_at ts p ≡ node (Theory o) (pick ts is) → IsTrue (is_linear (tree_at ts p))
    → (InRange (place_divisor ts is) → ⊥) → rows_fit ts (rows_at ts (Theory o) (pick ts is)) ≡ false
