-- What holds of these clauses.
use Rattle.std.specs.Prelude.{◌≡◌, ◌≢◌, ℕ, Bool, true, false, ◌+◌, ◌*◌, ◌≤◌, List, [], ◌∷◌, ◌++◌, map, length, All, Contains, IsTrue, ℤ, pos, negsuc, neg_ℤ, int_le, ◌≤ℤ◌}
use Rattle.std.specs.List.{AllZip}
use Rattle.literals.specs.Signed.{Signed, opposite, literal_true}
use Rattle.smt_meaning.specs.declared.values.Value.{Value}
use Rattle.smt_meaning.specs.declared.values.Value.TheVariants.{Truth, Whole}
use Rattle.smt_meaning.specs.declared.terms.Operator.{Operator}
use Rattle.smt_meaning.specs.declared.terms.Operator.TheVariants.{AtMost as IsAtMost, Less, AtLeast, Greater}
use Rattle.smt_meaning.specs.declared.terms.Head.TheVariants.{Theory}
use Rattle.smt_meaning.specs.declared.clauses.Summand.{Summand}
use Rattle.smt_meaning.specs.declared.clauses.Atom.{Atom}
use Rattle.smt_meaning.specs.declared.clauses.Atom.TheVariants.{Truth as TruthAtom, AtMost, Same}
use Rattle.smt_meaning.specs.Declaration.{Declaration}
use Rattle.smt_meaning.specs.Term.{Tree, node, tree_at, Interpretation, operate, truth_of, number_of, same_value}
use Rattle.smt_meaning.specs.TreeShape.{is_linear, is_among, place_of}
use Rattle.smt_meaning.specs.Signature.{tree_sort, is_int}
use Rattle.smt_meaning.specs.Clause.{value_at, atom_true}
use Rattle.smt_meaning.specs.Linear.{each_times, leaves}
use Rattle.smt_meaning.specs.Nodes.{pick}
use Rattle.smt_meaning.specs.Atoms.{comparison_atoms, pair_atoms}
use Rattle.smt_meaning.specs.Forced.{Reaches}
use Rattle.search_port.specs.State.{IsConsistent, IsMadeTrue}
use Rattle.equality_clauses.specs.Ties.{literal}
use Rattle.equality_clauses.specs.Laws.{IsOver, AllTrue}
use Rattle.bound_clauses.specs.declared.orders.Sense.TheVariants.{NotAbove}
use Rattle.bound_clauses.specs.declared.orders.Order.{Order}
use Rattle.bound_clauses.specs.declared.axioms.Bound.{Bound}
use Rattle.bound_clauses.specs.Orders.{order, order_atoms, both_orders, order_holds, bound_atom}
use Rattle.bound_clauses.specs.Ties.{order_clauses, equal_clauses, constant_clauses}
use Rattle.bound_clauses.specs.Chain.{axioms}

abbrev pub orders : Operator → Bool
orders IsAtMost = true
orders Less = true
orders AtLeast = true
orders Greater = true
orders o = false

-- the bounds of a comparison are the atoms that the stack has for it
abbrev pub OrdersAreComparisons : Type 0
OrdersAreComparisons =
    (ts : List Tree) (ds : List Declaration) (o : Operator) (is : List ℕ) → IsTrue (orders o)
    → comparison_atoms ts ds (Theory o) (pick ts is) ≡ map (bound_atom ts) (order_atoms o is)

-- and those of two Ints that `=`, `distinct` or an `ite` compares are their equality and both bounds of their difference
abbrev pub PairsAreCompared : Type 0
PairsAreCompared =
    (ts : List Tree) (ds : List Declaration) (i j : ℕ) → IsTrue (is_int (tree_sort ds (tree_at ts i))) → place_of (tree_at ts i) ts ≡ i → place_of (tree_at ts j) ts ≡ j
    → pair_atoms ts ds (tree_at ts i) (tree_at ts j) ≡ Same i j ∷ map (bound_atom ts) (both_orders i j)

-- ---- comparisons

-- the sign of each of these numbers is whether the order holds of the values of its two places
abbrev pub AgreeOnOrders : (ℕ → Value) → (ℕ → Bool) → List ℕ → List Order → Type 0
AgreeOnOrders v signs bounds os = map signs bounds ≡ map (order_holds v) os

-- signs that agree with values make the clauses true exactly where the term has the sign of its operator's value
abbrev pub OrderIsTied : Type 0
OrderIsTied =
    (o : Operator) (v : ℕ → Value) (signs : ℕ → Bool) (t : ℕ) (bounds is : List ℕ) → IsTrue (orders o) → AgreeOnOrders v signs bounds (order_atoms o is)
    → (signs t ≡ truth_of (operate o (map v is)) → AllTrue signs (order_clauses t bounds))
    × (AllTrue signs (order_clauses t bounds) → Truth (signs t) ≡ operate o (map v is))

abbrev pub OrderIsOver : Type 0
OrderIsOver = (t : ℕ) (bounds : List ℕ) → (Contains bounds t → ⊥) → All (IsOver (t ∷ bounds)) (order_clauses t bounds)

-- ---- equalities

abbrev pub IsNumber : Value → Type 0
IsNumber v = v ≡ Whole (number_of v)

abbrev pub EqualityIsTied : Type 0
EqualityIsTied =
    (v : ℕ → Value) (signs : ℕ → Bool) (same below above i j : ℕ) → IsNumber (v i) → IsNumber (v j)
    → signs below ≡ order_holds v (order NotAbove i j) → signs above ≡ order_holds v (order NotAbove j i)
    → (signs same ≡ same_value (v i) (v j) → AllTrue signs (equal_clauses same below above))
    × (AllTrue signs (equal_clauses same below above) → signs same ≡ same_value (v i) (v j))

abbrev pub EqualityIsOver : Type 0
EqualityIsOver = (same below above : ℕ) → same ≢ below → same ≢ above → All (IsOver (same ∷ below ∷ above ∷ [])) (equal_clauses same below above)

-- ---- bounds of the empty sum

abbrev pub ConstantIsTied : Type 0
ConstantIsTied =
    (signs : ℕ → Bool) (number : ℕ) (holds : Bool)
    → (signs number ≡ holds → AllTrue signs (constant_clauses number holds)) × (AllTrue signs (constant_clauses number holds) → signs number ≡ holds)

abbrev pub ConstantIsOver : Type 0
ConstantIsOver = (number : ℕ) (holds : Bool) → All (IsOver (number ∷ [])) (constant_clauses number holds)

-- ---- bounds of one sum and of its negation

abbrev pub Pairwise : {A : Type 0} → (A → A → Type 0) → List A → Type 0
Pairwise R [] = Unit {0}
Pairwise R (x ∷ xs) = All (R x) xs × Pairwise R xs

abbrev pub IsAscending : List Bound → Type 0
IsAscending bs = Pairwise (λ (b c : Bound). b.threshold ≤ℤ c.threshold) bs

abbrev pub numbers_of : List Bound → List Bound → List ℕ
numbers_of bounds negated = map (λ (b : Bound). b.number) bounds ++ map (λ (b : Bound). b.number) negated

-- where the sum has this value, the sign of each bound of it, and of each of its negation, is whether it holds
pub record AreRight (signs : ℕ → Bool) (s : ℤ) (bounds negated : List Bound) : Type 0 where
  pub of_sum : All (λ (b : Bound). signs b.number ≡ int_le s b.threshold) bounds
  pub of_negation : All (λ (b : Bound). signs b.number ≡ int_le (neg_ℤ s) b.threshold) negated

-- they are true whatever whole number the sum is
abbrev pub AxiomsAreTrue : Type 0
AxiomsAreTrue =
    (signs : ℕ → Bool) (s : ℤ) (bounds negated : List Bound) → IsAscending bounds → IsAscending negated → AreRight signs s bounds negated
    → AllTrue signs (axioms bounds negated)

-- where no number stands twice
abbrev pub AxiomsAreOver : Type 0
AxiomsAreOver =
    (bounds negated : List Bound) → Pairwise (λ (m n : ℕ). m ≢ n) (numbers_of bounds negated) → All (IsOver (numbers_of bounds negated)) (axioms bounds negated)

-- at most two for each bound
abbrev pub AxiomsAreFew : Type 0
AxiomsAreFew = (bounds negated : List Bound) → length (axioms bounds negated) ≤ 2 * (length bounds + length negated)

-- whatever whole number the sum is, the second literal is true where the first is
abbrev pub FollowsFrom : List Bound → List Bound → Signed → Signed → Type 0
FollowsFrom bounds negated l m = (signs : ℕ → Bool) (s : ℤ) → AreRight signs s bounds negated → literal_true signs l ≡ true → literal_true signs m ≡ true

-- from one literal on these atoms propagation reaches each that follows from it
abbrev pub AxiomsForceAll : Type 0
AxiomsForceAll =
    (bounds negated : List Bound) (l m : Signed) → IsAscending bounds → IsAscending negated → Pairwise (λ (i j : ℕ). i ≢ j) (numbers_of bounds negated)
    → Contains (numbers_of bounds negated) l.atom → Contains (numbers_of bounds negated) m.atom → FollowsFrom bounds negated l m
    → Reaches opposite (axioms bounds negated) (l ∷ []) m

-- ---- under an interpretation

-- the tree at a place is linear, and its leaves are among the trees
pub record IsReadable (ts : List Tree) (i : ℕ) : Type 0 where
  pub linear : IsTrue (is_linear (tree_at ts i))
  pub leaves_within : All (λ u. IsTrue (is_among u ts)) (leaves (tree_at ts i))

-- the bound that says an order holds exactly where the values of its two terms are in it
abbrev pub BoundHasValue : Type 0
BoundHasValue =
    (ts : List Tree) (I : Interpretation) (o : Order) → IsReadable ts o.lesser → IsReadable ts o.greater
    → atom_true ts I (bound_atom ts o) ≡ order_holds (value_at ts I) o

-- numbers that stand for the bounds of a comparison have signs that agree with the values that an interpretation gives the terms
abbrev pub InterpretationAgrees : Type 0
InterpretationAgrees =
    (ts : List Tree) (I : Interpretation) (atom : ℕ → Atom) (o : Operator) (bounds is : List ℕ) → All (IsReadable ts) is
    → map atom bounds ≡ map (bound_atom ts) (order_atoms o is) → AgreeOnOrders (value_at ts I) (λ n. atom_true ts I (atom n)) bounds (order_atoms o is)

-- so the clauses of a comparison are true under every interpretation
abbrev pub OrderClausesAreTrue : Type 0
OrderClausesAreTrue =
    (ts : List Tree) (I : Interpretation) (atom : ℕ → Atom) (o : Operator) (t p : ℕ) (bounds is : List ℕ) → IsTrue (orders o) → All (IsReadable ts) is
    → atom t ≡ TruthAtom p → tree_at ts p ≡ node (Theory o) (pick ts is) → map atom bounds ≡ map (bound_atom ts) (order_atoms o is)
    → AllTrue (λ n. atom_true ts I (atom n)) (order_clauses t bounds)

-- those of an equality under each that gives its sides numbers
abbrev pub EqualityClausesAreTrue : Type 0
EqualityClausesAreTrue =
    (ts : List Tree) (I : Interpretation) (atom : ℕ → Atom) (same below above i j : ℕ) → IsReadable ts i → IsReadable ts j
    → IsNumber (value_at ts I i) → IsNumber (value_at ts I j)
    → atom same ≡ Same i j → atom below ≡ bound_atom ts (order NotAbove i j) → atom above ≡ bound_atom ts (order NotAbove j i)
    → AllTrue (λ n. atom_true ts I (atom n)) (equal_clauses same below above)

-- a bound of the empty sum is true under every interpretation or under none, and its clause says so
abbrev pub ConstantHasValue : Type 0
ConstantHasValue =
    (ts : List Tree) (I : Interpretation) (atom : ℕ → Atom) (number : ℕ) (k : ℤ) → atom number ≡ AtMost [] k
    → AllTrue (λ n. atom_true ts I (atom n)) (constant_clauses number (int_le (pos 0) k))

abbrev pub negation_of : List Summand → List Summand
negation_of sum = each_times (negsuc 0) sum

-- the axioms of bounds of a sum and of its negation are true under every interpretation
abbrev pub AxiomsHaveValue : Type 0
AxiomsHaveValue =
    (ts : List Tree) (I : Interpretation) (atom : ℕ → Atom) (sum : List Summand) (bounds negated : List Bound) → IsAscending bounds → IsAscending negated
    → All (λ (b : Bound). atom b.number ≡ AtMost sum b.threshold) bounds → All (λ (b : Bound). atom b.number ≡ AtMost (negation_of sum) b.threshold) negated
    → AllTrue (λ n. atom_true ts I (atom n)) (axioms bounds negated)

-- ---- under a log

-- the log has each of these numbers with its sign
abbrev pub AreGiven : List Signed → List ℕ → List Bool → Type 0
AreGiven log numbers signs = AllZip (λ n b. Contains log (literal b n)) numbers signs

-- a consistent log that makes the clauses true, and in which the bounds have the signs that fit the values, gives the comparison its operator's value
abbrev pub OrderIsDecided : Type 0
OrderIsDecided =
    (o : Operator) (v : ℕ → Value) (log : List Signed) (t : ℕ) (bounds is : List ℕ) → IsTrue (orders o) → IsConsistent log
    → AreGiven log bounds (map (order_holds v) (order_atoms o is)) → All (IsMadeTrue log) (order_clauses t bounds)
    → Contains log (literal (truth_of (operate o (map v is))) t)

abbrev pub EqualityIsDecided : Type 0
EqualityIsDecided =
    (v : ℕ → Value) (log : List Signed) (same below above i j : ℕ) → IsConsistent log → IsNumber (v i) → IsNumber (v j)
    → Contains log (literal (order_holds v (order NotAbove i j)) below) → Contains log (literal (order_holds v (order NotAbove j i)) above)
    → All (IsMadeTrue log) (equal_clauses same below above) → Contains log (literal (same_value (v i) (v j)) same)
