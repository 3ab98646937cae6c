-- What a consistent log that makes the clauses of a part true gives.
use Rattle.std.specs.Prelude.{◌≡◌, ◌≢◌, ℕ, Bool, true, false, List, [], ◌∷◌, length, map, flat_map, All, Contains, IsTrue, ℤ, pos}
use Rattle.literals.specs.Signed.{Signed}
use Rattle.smt_meaning.specs.declared.values.Value.{Value}
use Rattle.smt_meaning.specs.declared.terms.Operator.{Operator}
use Rattle.smt_meaning.specs.declared.terms.Operator.TheVariants.{Ite, Absolute, Divisible}
use Rattle.smt_meaning.specs.declared.clauses.Atom.{Atom}
use Rattle.smt_meaning.specs.Term.{Tree, operate, truth_of, number_of, same_value}
use Rattle.smt_meaning.specs.Signature.{stands_with}
use Rattle.smt_laws.specs.Rows.{limit_holds, place_divisor}
use Rattle.pair_bounds.specs.declared.rows.RowLimit.{RowLimit}
use Rattle.pair_bounds.specs.Rows.{limit_of_row}
use Rattle.search_port.specs.State.{IsConsistent, IsMadeTrue}
use Rattle.atom_form.specs.AtomTableNumbers.{IsAt}
use Rattle.equality_clauses.specs.Ties.{literal}
use Rattle.equality_clauses.specs.Laws.{compares}
use Rattle.bound_clauses.specs.declared.orders.Order.{Order}
use Rattle.bound_clauses.specs.Orders.{order_atoms, order_holds}
use Rattle.bound_clauses.specs.Laws.{orders, IsNumber}
use Rattle.order_clauses.specs.declared.pairs.Pair.{Pair}
use Rattle.order_clauses.specs.Pairs.{pair, pairs_of, orders_of_pair}
use Rattle.order_clauses.specs.Numbers.{number_in}
use Rattle.order_clauses.specs.Clauses.{has_rows, truth_number, same_number, bound_number, limit_number, order_part, equality_part, choice_part, division_part}
use Rattle.order_clauses.specs.Needed.{limits_of_division}

-- the number of an atom that has one is where it stands
abbrev pub NumbersAreFound : Type 0
NumbersAreFound = (table : List Atom) (a : Atom) → Contains table a → IsAt table (number_in table a) a

-- the log gives the atom of this number this truth value
abbrev pub IsGiven : List Signed → ℕ → Bool → Type 0
IsGiven log n b = Contains log (literal b n)

-- it gives the bounds of these orders what holds of the values of places
abbrev pub FitsOrders : (ℕ → Value) → List Signed → List Tree → List Atom → List Order → Type 0
FitsOrders v log ts table os = All (λ (o : Order). IsGiven log (bound_number ts table o) (order_holds v o)) os

abbrev pub same_in : (ℕ → Value) → Pair → Bool
same_in v q = same_value (v q.left) (v q.right)

-- it gives the equalities of these pairs what holds of the values
abbrev pub FitsPairs : (ℕ → Value) → List Signed → List Atom → List Pair → Type 0
FitsPairs v log table qs = All (λ (q : Pair). IsGiven log (same_number table q) (same_in v q)) qs

abbrev pub AreNumbers : (ℕ → Value) → List Pair → Type 0
AreNumbers v qs = All (λ (q : Pair). IsNumber (v q.left) × IsNumber (v q.right)) qs

-- of Ints the bounds fit; of elements of declared sorts the equalities do
abbrev pub FitsTerms : (ℕ → Value) → List Signed → List Tree → List Atom → Bool → List Pair → Type 0
FitsTerms v log ts table true qs = AreNumbers v qs × FitsOrders v log ts table (flat_map orders_of_pair qs)
FitsTerms v log ts table false qs = FitsPairs v log table qs

-- then each comparison, each `=` and each `distinct` has the truth value that its operator makes of the values
abbrev pub OrderPartIsDecided : Type 0
OrderPartIsDecided =
    (v : ℕ → Value) (log : List Signed) (ts : List Tree) (table : List Atom) (o : Operator) (p : ℕ) (is : List ℕ) → IsTrue (orders o) → IsConsistent log
    → FitsOrders v log ts table (order_atoms o is) → All (IsMadeTrue log) (order_part ts table o p is) → IsGiven log (truth_number table p) (truth_of (operate o (map v is)))

abbrev pub EqualityPartIsDecided : Type 0
EqualityPartIsDecided =
    (v : ℕ → Value) (log : List Signed) (ts : List Tree) (table : List Atom) (int : Bool) (o : Operator) (p : ℕ) (is : List ℕ) → IsTrue (compares o) → IsConsistent log
    → FitsTerms v log ts table int (pairs_of o is) → All (IsMadeTrue log) (equality_part ts table int o p is) → IsGiven log (truth_number table p) (truth_of (operate o (map v is)))

-- and each `ite` that is an Int has the value of the branch that is taken
abbrev pub ChoicePartIsDecided : Type 0
ChoicePartIsDecided =
    (v : ℕ → Value) (log : List Signed) (ts : List Tree) (table : List Atom) (p c i j : ℕ) → IsConsistent log → IsGiven log (truth_number table c) (truth_of (v c))
    → FitsTerms v log ts table true (pair p i ∷ pair p j ∷ []) → All (IsMadeTrue log) (choice_part ts table p c i j) → v p ≡ operate Ite (v c ∷ v i ∷ v j ∷ [])

-- ---- divisions

abbrev pub number_at : (ℕ → Value) → ℕ → ℤ
number_at v i = number_of (v i)

-- the log gives the bounds of these limits what holds of the numbers at places
abbrev pub FitsLimits : (ℕ → Value) → List Signed → List Tree → List Atom → List RowLimit → Type 0
FitsLimits v log ts table ls = All (λ (l : RowLimit). IsGiven log (limit_number ts table l) (limit_holds (number_at v) (limit_of_row l))) ls

-- the second argument has the number of its form as its value, which isn't 0
abbrev pub DividesBy : (ℕ → Value) → List Tree → Operator → List ℕ → Type 0
DividesBy v ts Absolute is = Unit {0}
DividesBy v ts o (a ∷ d ∷ is) = (number_at v d ≡ place_divisor ts (a ∷ d ∷ is)) × (place_divisor ts (a ∷ d ∷ is) ≢ pos 0)
DividesBy v ts o is = Unit {0}

-- a divisibility has its operator's truth value in the log, and another term its operator's value
abbrev pub HasOperatorsValue : (ℕ → Value) → List Signed → List Atom → Operator → ℕ → List ℕ → Type 0
HasOperatorsValue v log table Divisible p is = IsGiven log (truth_number table p) (truth_of (operate Divisible (map v is)))
HasOperatorsValue v log table o p is = IsNumber (v p) → v p ≡ operate o (map v is)

-- so is each `div`, `mod`, `abs` and divisibility
abbrev pub DivisionPartIsDecided : Type 0
DivisionPartIsDecided =
    (v : ℕ → Value) (log : List Signed) (ts : List Tree) (table : List Atom) (o : Operator) (p : ℕ) (is : List ℕ) → IsTrue (has_rows o) → IsTrue (stands_with o (length is)) → IsConsistent log
    → DividesBy v ts o is → FitsLimits v log ts table (limits_of_division ts o p is) → All (IsMadeTrue log) (division_part ts table o p is) → HasOperatorsValue v log table o p is
