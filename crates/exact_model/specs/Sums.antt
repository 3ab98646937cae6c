-- Sums of products of coefficients and numbers that are listed.
use Rattle.std.specs.Prelude.{ℕ, List, map, ℤ}
use Rattle.smt_meaning.specs.declared.values.Value.{Value}
use Rattle.smt_meaning.specs.declared.clauses.Summand.{Summand}
use Rattle.smt_meaning.specs.Term.{Tree, tree_at}
use Rattle.smt_meaning.specs.Linear.{linear_form}
use Rattle.smt_meaning.specs.Ranges.{form_at}
use Rattle.exact_model.specs.Exact.{number_at}

-- the value of the linear form of the term at a place
unfoldable pub number_of_place : List Tree → List Value → ℕ → ℤ
number_of_place ts vs p = form_at (number_at vs) (linear_form ts (tree_at ts p))

-- ---- no public contract speaks of it

-- a coefficient beside its term's number
abbrev pub pair_of : List Value → Summand → ℤ × ℤ
pair_of vs s = (s.coefficient, number_at vs s.term)

abbrev pub pairs_of : List Value → List Summand → List (ℤ × ℤ)
pairs_of vs sum = map (pair_of vs) sum
