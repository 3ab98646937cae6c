-- The rows of divisions as clauses: in normal form, true of each value, and of no other; and what they add to a check.
use Rattle.std.proofs.Common.{◌≡◌, ℕ, ℤ, pos, negsuc, Bool, true, false, List, [], ◌∷◌, map, refl, inl, inr, None}
use Rattle.std.specs.Prelude.{codes}
use Rattle.std.specs.List.{list_all}
use Rattle.fraction128.specs.Gcd.{gcd_of}
use Rattle.smt_meaning.specs.declared.values.Sort.TheVariants.{Int as Ints}
use Rattle.smt_meaning.specs.declared.values.Table.{Table}
use Rattle.smt_meaning.specs.declared.values.Value.TheVariants.{Truth as TruthValue, Whole}
use Rattle.smt_meaning.specs.declared.terms.Operator.{Operator}
use Rattle.smt_meaning.specs.declared.terms.Operator.TheVariants.{Subtract, Multiply, Divide, Modulo, Absolute, Divisible}
use Rattle.smt_meaning.specs.declared.terms.Head.TheVariants.{Numeral, Theory, Symbol as Function}
use Rattle.smt_meaning.specs.declared.clauses.Summand.{Summand}
use Rattle.smt_meaning.specs.declared.clauses.Atom.TheVariants.{Truth, AtMost}
use Rattle.smt_meaning.specs.declared.clauses.Literal.{Literal}
use Rattle.smt_meaning.specs.declared.reports.RangeSeen.TheVariants.{Coefficient}
use Rattle.smt_meaning.specs.declared.reports.Cause.TheVariants.{Range}
use Rattle.smt_meaning.specs.Declaration.{Declaration}
use Rattle.smt_meaning.specs.Term.{Tree, Trees, node, none, more}
use Rattle.smt_meaning.specs.TreeShape.{is_linear, operation, with_parts}
use Rattle.smt_meaning.specs.Sorts.{with_all}
use Rattle.smt_meaning.specs.Interpretation.{meaning}
use Rattle.smt_meaning.specs.Linear.{summand}
use Rattle.smt_meaning.specs.Division.{rows_of, rows_fit}
use Rattle.smt_meaning.specs.Clause.{some_true}
use Rattle.smt_meaning.specs.Atoms.{division_clauses, stack_atoms}
use Rattle.smt_meaning.specs.Stack.{Frame}
use Rattle.smt_meaning.specs.Boxes.{IsInBox}
use Rattle.smt_meaning.specs.CheckAtoms.{IsLeaf}
use Rattle.smt_meaning.specs.Report.{Shows}
use Rattle.smt_laws.proofs.Reports.{in_head, no_sums, none_in}

abbrev tree_x : Tree
tree_x = node (Function 0) none

abbrev number : ℤ → Tree
number n = node (Numeral n) none

abbrev two : Operator → Tree → Tree → Tree
two o s t = node (Theory o) (more s (more t none))

abbrev half : Tree
half = two Divide tree_x (number (pos 2))

-- with the quotient beside it
abbrev left_over : Operator → Tree → Tree → Tree → Tree
left_over o s t q = node (Theory o) (more s (more t (more q none)))

abbrev rest : Tree
rest = left_over Modulo tree_x (number (pos 2)) half

abbrev even : Tree
even = left_over Divisible tree_x (number (pos 2)) half

abbrev size : Tree
size = node (Theory Absolute) (more tree_x none)

-- as written
abbrev arguments : Trees
arguments = more tree_x (more (number (pos 2)) none)

operations : map (λ o. operation o arguments) (Divide ∷ Modulo ∷ Divisible ∷ []) ≡ half ∷ rest ∷ even ∷ []
operations = refl

-- the quotient stands once, before what it goes with
abbrev trees : List Tree
trees = tree_x ∷ number (pos 2) ∷ half ∷ rest ∷ even ∷ size ∷ []

trees_are : with_all [] (rest ∷ even ∷ size ∷ []) ≡ trees
trees_are = refl

-- by 2 and then by 3
quotients_in_turn : operation Divide (more tree_x (more (number (pos 2)) (more (number (pos 3)) none))) ≡ two Divide half (number (pos 3))
quotients_in_turn = refl

abbrev negated : Tree → Tree
negated t = node (Theory Subtract) (more t none)

-- divided by numerals other than 0 and their negations alone, and with their own quotient beside them
linear_ones : map is_linear (half ∷ rest ∷ even ∷ size ∷ two Divide tree_x (negated (number (pos 2))) ∷ []) ≡ true ∷ true ∷ true ∷ true ∷ true ∷ []
linear_ones = refl

others_refused : map is_linear
    (two Divide tree_x (number (pos 0)) ∷ two Divide tree_x tree_x ∷ two Divide tree_x (negated tree_x) ∷ two Divide tree_x (negated (negated (number (pos 2)))) ∷ two Modulo tree_x (number (pos 2))
    ∷ left_over Modulo tree_x (number (pos 2)) tree_x ∷ left_over Modulo tree_x (number (pos 3)) half ∷ left_over Divisible tree_x (number (pos 0)) (two Divide tree_x (number (pos 0))) ∷ [])
    ≡ false ∷ false ∷ false ∷ false ∷ false ∷ false ∷ false ∷ false ∷ []
others_refused = refl

-- ---- the clauses, over the places of these trees

abbrev at_most : List Summand → ℤ → Literal
at_most sum k = record { atom = AtMost sum k; positive = true }

abbrev says : Bool → ℕ → Literal
says b place = record { atom = Truth place; positive = b }

-- x is the term 0 and its half the term 2: 2 * q - x <= 0, and x - 2 * q <= 1
half_clauses : division_clauses trees half
    ≡ (at_most (summand 0 (negsuc 0) ∷ summand 2 (pos 2) ∷ []) (pos 0) ∷ []) ∷ (at_most (summand 0 (pos 1) ∷ summand 2 (negsuc 1) ∷ []) (pos 1) ∷ []) ∷ []
unfolding gcd_of
half_clauses = refl

rest_clauses : division_clauses trees rest
    ≡ (at_most (summand 0 (negsuc 0) ∷ summand 2 (pos 2) ∷ []) (pos 0) ∷ []) ∷ (at_most (summand 0 (pos 1) ∷ summand 2 (negsuc 1) ∷ []) (pos 1) ∷ [])
    ∷ (at_most (summand 0 (negsuc 0) ∷ summand 2 (pos 2) ∷ summand 3 (pos 1) ∷ []) (pos 0) ∷ []) ∷ (at_most (summand 0 (pos 1) ∷ summand 2 (negsuc 1) ∷ summand 3 (negsuc 0) ∷ []) (pos 0) ∷ []) ∷ []
unfolding gcd_of
rest_clauses = refl

even_clauses : division_clauses trees even
    ≡ (at_most (summand 0 (negsuc 0) ∷ summand 2 (pos 2) ∷ []) (pos 0) ∷ []) ∷ (at_most (summand 0 (pos 1) ∷ summand 2 (negsuc 1) ∷ []) (pos 1) ∷ [])
    ∷ (says true 4 ∷ at_most (summand 0 (negsuc 0) ∷ summand 2 (pos 2) ∷ []) (negsuc 0) ∷ []) ∷ (says false 4 ∷ at_most (summand 0 (pos 1) ∷ summand 2 (negsuc 1) ∷ []) (pos 0) ∷ []) ∷ []
unfolding gcd_of
even_clauses = refl

size_clauses : division_clauses trees size
    ≡ (at_most (summand 0 (pos 1) ∷ summand 5 (negsuc 0) ∷ []) (pos 0) ∷ []) ∷ (at_most (summand 0 (negsuc 0) ∷ summand 5 (negsuc 0) ∷ []) (pos 0) ∷ [])
    ∷ (at_most (summand 0 (negsuc 0) ∷ summand 5 (pos 1) ∷ []) (pos 0) ∷ at_most (summand 0 (pos 1) ∷ summand 5 (pos 1) ∷ []) (pos 0) ∷ []) ∷ []
unfolding gcd_of
size_clauses = refl

-- (div (* 4 x) 2) in normal form: q - 2 * x <= 0, and 2 * x - q <= 0
abbrev scaled : Tree
scaled = two Divide (two Multiply (number (pos 4)) tree_x) (number (pos 2))

scaled_clauses : division_clauses (tree_x ∷ scaled ∷ []) scaled
    ≡ (at_most (summand 0 (negsuc 1) ∷ summand 1 (pos 1) ∷ []) (pos 0) ∷ []) ∷ (at_most (summand 0 (pos 2) ∷ summand 1 (negsuc 0) ∷ []) (pos 0) ∷ []) ∷ []
unfolding gcd_of
scaled_clauses = refl

-- a term that is no division has none, nor has one that sorting refuses
no_clauses : map (division_clauses trees) (tree_x ∷ number (pos 2) ∷ two Subtract tree_x tree_x ∷ node (Theory Divide) (more tree_x none) ∷ two Modulo tree_x (number (pos 2)) ∷ []) ≡ [] ∷ [] ∷ [] ∷ [] ∷ [] ∷ []
no_clauses = refl

-- ---- they are true

abbrev constant : ℕ → ℤ → Table
constant f n = record { symbol = f; rows = []; default = Whole n }

abbrev truth : ℕ → Bool → Table
truth f b = record { symbol = f; rows = []; default = TruthValue b }

abbrev all_hold : List Table → List Tree → List (List Literal) → Bool
all_hold i ts cs = list_all (λ c. some_true ts (meaning i) c) cs

abbrev true_of : ℤ → List Bool
true_of n = map (λ t. all_hold (constant 0 n ∷ []) trees (division_clauses trees t)) (half ∷ rest ∷ even ∷ size ∷ [])

abbrev four_hold : List Bool
four_hold = true ∷ true ∷ true ∷ true ∷ []

they_hold : map true_of (negsuc 7 ∷ negsuc 6 ∷ negsuc 0 ∷ pos 0 ∷ pos 1 ∷ pos 6 ∷ pos 7 ∷ []) ≡ four_hold ∷ four_hold ∷ four_hold ∷ four_hold ∷ four_hold ∷ four_hold ∷ four_hold ∷ []
unfolding gcd_of
they_hold = refl

-- ---- and no other value meets them: the same clauses, with constants in the places of the terms

-- x, q, m, D and b
abbrev others : List Tree
others = tree_x ∷ number (pos 2) ∷ node (Function 1) none ∷ node (Function 2) none ∷ node (Function 3) none ∷ node (Function 4) none ∷ []

abbrev given : ℤ → ℤ → ℤ → Bool → ℤ → List Table
given x q m d b = constant 0 x ∷ constant 1 q ∷ constant 2 m ∷ truth 3 d ∷ constant 4 b ∷ []

abbrev met : Tree → List Table → Bool
met t i = all_hold i others (division_clauses trees t)

-- -7 by 2 is -4
quotients : map (λ q. met half (given (negsuc 6) q (pos 0) true (pos 0))) (negsuc 5 ∷ negsuc 4 ∷ negsuc 3 ∷ negsuc 2 ∷ negsuc 1 ∷ []) ≡ false ∷ false ∷ true ∷ false ∷ false ∷ []
unfolding gcd_of
quotients = refl

-- and by -2 it is 4
abbrev below : Tree
below = two Divide tree_x (negated (number (pos 2)))

quotients_below : map (λ q. all_hold (given (negsuc 6) q (pos 0) true (pos 0)) others (division_clauses (tree_x ∷ number (pos 2) ∷ below ∷ []) below)) (pos 2 ∷ pos 3 ∷ pos 4 ∷ pos 5 ∷ negsuc 3 ∷ [])
    ≡ false ∷ false ∷ true ∷ false ∷ false ∷ []
unfolding gcd_of
quotients_below = refl

-- by 2 it leaves 1
remainders : map (λ m. met rest (given (negsuc 6) (negsuc 3) m true (pos 0))) (negsuc 1 ∷ negsuc 0 ∷ pos 0 ∷ pos 1 ∷ pos 2 ∷ []) ≡ false ∷ false ∷ false ∷ true ∷ false ∷ []
unfolding gcd_of
remainders = refl

-- it isn't even, and -6 is
parities : map (met even) (given (negsuc 6) (negsuc 3) (pos 0) true (pos 0) ∷ given (negsuc 6) (negsuc 3) (pos 0) false (pos 0) ∷ given (negsuc 5) (negsuc 2) (pos 0) true (pos 0) ∷ given (negsuc 5) (negsuc 2) (pos 0) false (pos 0) ∷ [])
    ≡ false ∷ true ∷ true ∷ false ∷ []
unfolding gcd_of
parities = refl

-- its absolute value is 7
sizes : map (λ b. met size (given (negsuc 6) (pos 0) (pos 0) true b)) (negsuc 6 ∷ pos 0 ∷ pos 6 ∷ pos 7 ∷ pos 8 ∷ []) ≡ false ∷ false ∷ false ∷ true ∷ false ∷ []
unfolding gcd_of
sizes = refl

-- ---- rows that leave the range

abbrev greatest : ℤ
greatest = pos 170141183460469231731687303715884105727

-- (- x N), where N is the greatest number of the range
abbrev far : Tree
far = two Subtract tree_x (number greatest)

abbrev far_even : Tree
far_even = operation Divisible (more far (more (number (pos 2)) none))

abbrev far_trees : List Tree
far_trees = with_parts (with_all [] (far_even ∷ [])) (two Divide far (number (pos 1)))

fitting : map (λ t. rows_fit far_trees (rows_of far_trees t))
    (two Divide far (number (pos 1)) ∷ two Divide far (number (negsuc 0)) ∷ two Divide far (number (pos 2)) ∷ left_over Modulo far (number (pos 1)) (two Divide far (number (pos 1))) ∷ far_even ∷ node (Theory Absolute) (more far none) ∷ half ∷ two Divide tree_x (number greatest) ∷ [])
    ≡ true ∷ true ∷ false ∷ true ∷ false ∷ true ∷ true ∷ true ∷ []
fitting = refl

abbrev whole_constant : Declaration
whole_constant = record { id = 0; name = codes "x"; rank = record { arguments = []; result = Ints }; body = None; is_sort = false; is_name = false }

abbrev asserts : Tree → List Frame
asserts t = record { declared = whole_constant ∷ []; asserted = record { text = []; term = t } ∷ [] } ∷ []

-- a row of the sixth term leaves it
row_leaves : Shows far_trees (asserts far_even) (pos 0) [] (Range (Coefficient 5))
row_leaves = record {
  sums = [];
  known = no_sums _;
  are_branches = tt;
  leaves = record {
    tree = far_even;
    part = record { assertion = far_even; asserted = in_head far_even []; part = inl refl };
    place_is = refl;
    leaves = inr refl;
  };
}

-- ---- what a check has of them

-- the bounds of the quotient's rows, then the truth of the assertion and the bounds of its own rows
even_atoms : stack_atoms trees (asserts even)
    ≡ AtMost (summand 0 (negsuc 0) ∷ summand 2 (pos 2) ∷ []) (pos 0) ∷ AtMost (summand 0 (pos 1) ∷ summand 2 (negsuc 1) ∷ []) (pos 1)
    ∷ Truth 4
    ∷ AtMost (summand 0 (negsuc 0) ∷ summand 2 (pos 2) ∷ []) (pos 0) ∷ AtMost (summand 0 (pos 1) ∷ summand 2 (negsuc 1) ∷ []) (pos 1)
    ∷ AtMost (summand 0 (negsuc 0) ∷ summand 2 (pos 2) ∷ []) (negsuc 0) ∷ AtMost (summand 0 (pos 1) ∷ summand 2 (negsuc 1) ∷ []) (pos 0) ∷ []
unfolding stack_atoms gcd_of
even_atoms = refl

-- the quotient of a divisibility is a leaf
quotient_is_leaf : IsLeaf trees (asserts even) 2
quotient_is_leaf = record {
  leaf = half;
  part = record {
    part = record { assertion = even; asserted = in_head even []; part = inr (inr (inr (inl (inl refl)))) };
    int = refl;
    place_is = refl;
  };
  is = refl;
}

divided_is_leaf : IsLeaf trees (asserts even) 0
divided_is_leaf = record {
  leaf = tree_x;
  part = record {
    part = record { assertion = even; asserted = in_head even []; part = inr (inl (inl refl)) };
    int = refl;
    place_is = refl;
  };
  is = refl;
}

-- what is divided wants a box: the bounds of the rows make none
unbounded : (n : ℤ) → IsInBox trees (asserts even) 0 n → ⊥
unfolding gcd_of
unbounded n h = none_in _ h.has_least
