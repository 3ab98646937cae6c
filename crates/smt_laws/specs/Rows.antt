-- What the rows of divisions say of numbers, whatever has these numbers.
use Rattle.std.specs.Prelude.{ℕ, Bool, false, ◌||◌, List, [], ◌∷◌, ◌++◌, map, ℤ, pos, ◌+ℤ◌, ◌*ℤ◌, int_le, Option, Some, None}
use Rattle.std.specs.List.{list_all}
use Rattle.smt_meaning.specs.declared.terms.Operator.{Operator}
use Rattle.smt_meaning.specs.declared.clauses.Literal.{Literal}
use Rattle.smt_meaning.specs.Term.{Tree, tree_at}
use Rattle.smt_meaning.specs.Clause.{signed}
use Rattle.smt_meaning.specs.Linear.{Form, linear_form}
use Rattle.smt_meaning.specs.Division.{Limit, Row, operator_rows}
use Rattle.smt_meaning.specs.Atoms.{positive, row_atoms, truth_literals}

-- a sum of multiples
abbrev pub multiples_value : {A : Type 0} → (A → ℤ) → List (ℤ × A) → ℤ
multiples_value value [] = pos 0
multiples_value value (m ∷ ms) = m.0 *ℤ value m.1 +ℤ multiples_value value ms

abbrev pub limit_holds : {A : Type 0} → (A → ℤ) → Limit A → Bool
limit_holds value l = int_le (multiples_value value l.multiples) l.most

abbrev pub one_holds : {A : Type 0} → (A → ℤ) → List (Limit A) → Bool
one_holds value [] = false
one_holds value (l ∷ ls) = limit_holds value l || one_holds value ls

-- the term, where it is a Bool, has the value that the row speaks of
abbrev pub truth_holds : Bool → Option Bool → Bool
truth_holds truth None = false
truth_holds truth (Some b) = signed b truth

abbrev pub row_holds : {A : Type 0} → (A → ℤ) → Bool → Row A → Bool
row_holds value truth r = truth_holds truth r.truth || one_holds value r.limits

abbrev pub rows_hold : {A : Type 0} → (A → ℤ) → Bool → List (Row A) → Bool
rows_hold value truth rows = list_all (row_holds value truth) rows

-- ---- by places

-- the form of the tree at a place
abbrev pub place_form : List Tree → ℕ → Form
place_form ts i = linear_form ts (tree_at ts i)

-- the number of the second argument's form, the divisor
abbrev pub place_divisor : List Tree → List ℕ → ℤ
place_divisor ts (a ∷ d ∷ is) = (place_form ts d).constant
place_divisor ts is = pos 0

-- the rows of the term at a place, whose arguments stand at these
abbrev pub placed_rows : List Tree → Operator → ℕ → List ℕ → List (Row ℕ)
placed_rows ts o p is = operator_rows o (place_divisor ts is) p is

abbrev pub placed_literals : List Tree → ℕ → Row ℕ → List Literal
placed_literals ts p r = truth_literals p r.truth ++ map positive (row_atoms (place_form ts) r)
