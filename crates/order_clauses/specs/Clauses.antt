-- The clauses of the parts of a stack that compare Ints, and of equalities and choices of terms that are no Bools, over the numbers that a table gives.
use Rattle.std.specs.Prelude.{ℕ, Bool, true, false, List, [], ◌∷◌, ◌++◌, length, map, flat_map, nat_eq, pos, int_le, Option, Some, None, slice_index_or, if◌then◌else◌}
use Rattle.literals.specs.Signed.{Signed}
use Rattle.smt_meaning.specs.declared.values.Sort.{Sort}
use Rattle.smt_meaning.specs.declared.values.Sort.TheVariants.{Bool as Truths, Int as Ints, Free}
use Rattle.smt_meaning.specs.declared.terms.Operator.{Operator}
use Rattle.smt_meaning.specs.declared.terms.Operator.TheVariants.{Equal, Distinct, Ite, AtMost, Less, AtLeast, Greater, Divide, Modulo, Absolute, Divisible}
use Rattle.smt_meaning.specs.declared.clauses.Atom.{Atom}
use Rattle.smt_meaning.specs.declared.clauses.Atom.TheVariants.{Truth, AtMost as BoundAtom}
use Rattle.smt_meaning.specs.Term.{Tree}
use Rattle.smt_meaning.specs.Atoms.{limit_atom}
use Rattle.smt_laws.specs.Rows.{place_form, place_divisor}
use Rattle.pair_bounds.specs.declared.rows.RowLimit.{RowLimit}
use Rattle.pair_bounds.specs.declared.rows.Row.{Row}
use Rattle.pair_bounds.specs.Rows.{limit_of_row, placed_rows}
use Rattle.equality_clauses.specs.Ties.{literal, yes, comparison_clauses, choice_clauses}
use Rattle.bound_clauses.specs.declared.orders.Sense.TheVariants.{NotAbove}
use Rattle.bound_clauses.specs.declared.orders.Order.{Order}
use Rattle.bound_clauses.specs.Orders.{order, order_atoms, bound_atom}
use Rattle.bound_clauses.specs.Ties.{order_clauses, equal_clauses, constant_clauses}
use Rattle.order_clauses.specs.declared.pairs.Pair.{Pair}
use Rattle.order_clauses.specs.Pairs.{pair, pairs_of, same_atom, orders_of_pair}
use Rattle.order_clauses.specs.Numbers.{number_in}

-- ---- numbers

abbrev pub truth_number : List Atom → ℕ → ℕ
truth_number table p = number_in table (Truth p)

abbrev pub same_number : List Atom → Pair → ℕ
same_number table q = number_in table (same_atom q)

abbrev pub bound_number : List Tree → List Atom → Order → ℕ
bound_number ts table o = number_in table (bound_atom ts o)

-- ---- bounds of the empty sum

-- such a bound has its truth value; of other bounds nothing is said
abbrev pub constant_of : ℕ → Atom → List (List Signed)
constant_of n (BoundAtom [] k) = constant_clauses n (int_le (pos 0) k)
constant_of n a = []

abbrev pub of_bound : List Tree → List Atom → Order → List (List Signed)
of_bound ts table o = constant_of (bound_number ts table o) (bound_atom ts o)

-- ---- comparisons

-- a comparison is true exactly where the bounds of its neighbours are
abbrev pub order_part : List Tree → List Atom → Operator → ℕ → List ℕ → List (List Signed)
order_part ts table o p is =
    flat_map (of_bound ts table) (order_atoms o is) ++ order_clauses (truth_number table p) (map (bound_number ts table) (order_atoms o is))

-- ---- equalities

-- the equality of two Ints is true exactly where both bounds of their difference are
abbrev pub int_tie : List Tree → List Atom → Pair → List (List Signed)
int_tie ts table q =
    flat_map (of_bound ts table) (orders_of_pair q)
    ++ equal_clauses (same_number table q) (bound_number ts table (order NotAbove q.left q.right)) (bound_number ts table (order NotAbove q.right q.left))

-- of terms of a declared sort nothing more is said
abbrev pub tie : List Tree → List Atom → Bool → Pair → List (List Signed)
tie ts table int q = if int then int_tie ts table q else []

-- `=` or `distinct` of terms that are no Bools, over the equalities of the pairs that it compares
abbrev pub equality_part : List Tree → List Atom → Bool → Operator → ℕ → List ℕ → List (List Signed)
equality_part ts table int o p is =
    flat_map (tie ts table int) (pairs_of o is) ++ comparison_clauses o (truth_number table p) (map (same_number table) (pairs_of o is))

-- an `ite` that is an Int, with this condition and these branches, over its equalities with these
abbrev pub choice_part : List Tree → List Atom → ℕ → ℕ → ℕ → ℕ → List (List Signed)
choice_part ts table p c i j =
    flat_map (int_tie ts table) (pair p i ∷ pair p j ∷ []) ++ choice_clauses (truth_number table c) (same_number table (pair p i)) (same_number table (pair p j))

-- ---- divisions

-- a term with this operator has rows
abbrev pub has_rows : Operator → Bool
has_rows Divide = true
has_rows Modulo = true
has_rows Absolute = true
has_rows Divisible = true
has_rows o = false

abbrev pub limit_bound : List Tree → RowLimit → Atom
limit_bound ts l = limit_atom (place_form ts) (limit_of_row l)

abbrev pub limit_number : List Tree → List Atom → RowLimit → ℕ
limit_number ts table l = number_in table (limit_bound ts l)

abbrev pub of_limit : List Tree → List Atom → RowLimit → List (List Signed)
of_limit ts table l = constant_of (limit_number ts table l) (limit_bound ts l)

abbrev pub of_other : List Tree → List Atom → Option RowLimit → List (List Signed)
of_other ts table None = []
of_other ts table (Some l) = of_limit ts table l

-- the second number, unless it is the first
abbrev pub unless_same : ℕ → ℕ → List ℕ
unless_same m n = if nat_eq m n then [] else n ∷ []

abbrev pub other_numbers : List Tree → List Atom → ℕ → Option RowLimit → List ℕ
other_numbers ts table m None = []
other_numbers ts table m (Some l) = unless_same m (limit_number ts table l)

-- the numbers of a row's bounds, each once
abbrev pub row_numbers : List Tree → List Atom → Row → List ℕ
row_numbers ts table r = limit_number ts table r.limit ∷ other_numbers ts table (limit_number ts table r.limit) r.other

-- that the term has this truth value, where the row speaks of it
abbrev pub row_truth : List Atom → ℕ → Option Bool → List Signed
row_truth table p None = []
row_truth table p (Some b) = literal b (truth_number table p) ∷ []

abbrev pub row_clause : List Tree → List Atom → ℕ → Row → List Signed
row_clause ts table p r = row_truth table p r.truth ++ map yes (row_numbers ts table r)

abbrev pub row_part : List Tree → List Atom → ℕ → Row → List (List Signed)
row_part ts table p r = (of_limit ts table r.limit ++ of_other ts table r.other) ++ row_clause ts table p r ∷ []

-- `div`, `mod`, `abs` and divisibility: the clause of each row
abbrev pub division_part : List Tree → List Atom → Operator → ℕ → List ℕ → List (List Signed)
division_part ts table o p is = flat_map (row_part ts table p) (placed_rows o (place_divisor ts is) p is)

-- ---- parts

abbrev pub sort_at : List Sort → ℕ → Sort
sort_at sorts p = slice_index_or sorts p Truths

-- what is said of so many terms of this sort that are compared, by whether it is Int: of Bools nothing, and of two elements nothing, since the truth of their comparison says it
abbrev pub by_sort : {A : Type 0} → Sort → ℕ → (Bool → List A) → List A
by_sort Truths n f = []
by_sort Ints n f = f true
by_sort (Free s) n f = if nat_eq n 2 then [] else f false

-- of Ints alone
abbrev pub of_ints : {A : Type 0} → Sort → List A → List A
of_ints Ints xs = xs
of_ints s xs = []

-- of `=` and `distinct`, by the sort of the first argument
abbrev pub equality_clauses_of : List Sort → List Tree → List Atom → Operator → ℕ → List ℕ → List (List Signed)
equality_clauses_of sorts ts table o p [] = []
equality_clauses_of sorts ts table o p (i ∷ is) = by_sort (sort_at sorts i) (length (i ∷ is)) (λ int. equality_part ts table int o p (i ∷ is))

-- of `ite`, by its own: of an element the truth of the condition says all
abbrev pub choice_clauses_of : List Sort → List Tree → List Atom → ℕ → List ℕ → List (List Signed)
choice_clauses_of sorts ts table p (c ∷ i ∷ j ∷ []) = of_ints (sort_at sorts p) (choice_part ts table p c i j)
choice_clauses_of sorts ts table p is = []

-- by the sorts of places, the clauses of the term at a place with this operator and the arguments at these places: of a comparison of Ints, of `=` and `distinct` of
-- Ints, and of more than two terms of a declared sort, of `ite` of Ints, and of `div`, `mod`, `abs` and divisibility; of other terms none
abbrev pub part_clauses_of : List Sort → List Tree → List Atom → Operator → ℕ → List ℕ → List (List Signed)
part_clauses_of sorts ts table AtMost p is = order_part ts table AtMost p is
part_clauses_of sorts ts table Less p is = order_part ts table Less p is
part_clauses_of sorts ts table AtLeast p is = order_part ts table AtLeast p is
part_clauses_of sorts ts table Greater p is = order_part ts table Greater p is
part_clauses_of sorts ts table Equal p is = equality_clauses_of sorts ts table Equal p is
part_clauses_of sorts ts table Distinct p is = equality_clauses_of sorts ts table Distinct p is
part_clauses_of sorts ts table Ite p is = choice_clauses_of sorts ts table p is
part_clauses_of sorts ts table Divide p is = division_part ts table Divide p is
part_clauses_of sorts ts table Modulo p is = division_part ts table Modulo p is
part_clauses_of sorts ts table Absolute p is = division_part ts table Absolute p is
part_clauses_of sorts ts table Divisible p is = division_part ts table Divisible p is
part_clauses_of sorts ts table o p is = []
