-- What is asked of the value of a term: as text, and as a tree.
use Rattle.std.specs.Prelude.{ℕ, ◌+◌, ◌-◌, ◌^◌, ℤ, pos, negsuc, neg_ℤ, List, [], ◌∷◌, ◌++◌, codes}
use Rattle.std.specs.Fmt.{decimal}
use Rattle.smt_meaning.specs.declared.tokens.Token.{Token}
use Rattle.smt_meaning.specs.declared.tokens.Token.TheVariants.{Enter, Leave, Numeral, Symbol}
use Rattle.smt_meaning.specs.declared.terms.Operator.{Operator}
use Rattle.smt_meaning.specs.declared.terms.Operator.TheVariants.{Equal, AtMost, Less, Subtract}
use Rattle.smt_meaning.specs.declared.terms.Head.TheVariants.{Numeral as Number, Theory}
use Rattle.smt_meaning.specs.Term.{Tree, node, none, more}
use Rattle.smt_meaning.specs.Stack.{Assertion}

-- n, or (- n) below 0
abbrev pub number_text : ℤ → List Token
number_text (pos n) = Numeral (decimal n) ∷ []
number_text (negsuc n) = Enter ∷ Symbol (codes "-") ∷ Numeral (decimal (n + 1)) ∷ Leave ∷ []

abbrev pub number_tree : ℤ → Tree
number_tree (pos n) = node (Number (pos n)) none
number_tree (negsuc n) = node (Theory Subtract) (more (node (Number (pos (n + 1))) none) none)

-- (o t u)
abbrev pub pair_text : List ℕ → List Token → List Token → List Token
pair_text o t u = Enter ∷ Symbol o ∷ (t ++ u ++ Leave ∷ [])

abbrev pub pair_tree : Operator → Tree → Tree → Tree
pair_tree o t u = node (Theory o) (more t (more u none))

-- (= t t)
abbrev pub is_itself : List Token → Tree → Assertion
is_itself text t = record { text = pair_text (codes "=") text text; term = pair_tree Equal t t }

-- the goal of (= t t)
abbrev pub goal_of : Tree → Tree
goal_of (node h (more t us)) = t
goal_of (node h none) = node h none

-- (<= t k)
abbrev pub is_at_most : List Token → Tree → ℤ → Assertion
is_at_most text t k = record { text = pair_text (codes "<=") text (number_text k); term = pair_tree AtMost t (number_tree k) }

-- (< t k)
abbrev pub is_below : List Token → Tree → ℤ → Assertion
is_below text t k = record { text = pair_text (codes "<") text (number_text k); term = pair_tree Less t (number_tree k) }

-- the least number of the range
abbrev pub least_number : ℤ
least_number = neg_ℤ (pos (2 ^ 127 - 1))
