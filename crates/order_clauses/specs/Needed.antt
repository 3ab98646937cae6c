-- The atoms that the clauses of a part are over, and the orders whose bounds are among them.
use Rattle.std.specs.Prelude.{◌≡◌, ℕ, Bool, true, List, [], ◌∷◌, ◌++◌, length, map, flat_map, All, Contains, Option, Some, None, if◌then◌else◌}
use Rattle.smt_meaning.specs.declared.terms.Operator.{Operator}
use Rattle.smt_meaning.specs.declared.terms.Operator.TheVariants.{Equal, Distinct, Ite, AtMost, Less, AtLeast, Greater, Divide, Modulo, Absolute, Divisible}
use Rattle.smt_meaning.specs.declared.terms.Head.TheVariants.{Theory}
use Rattle.smt_meaning.specs.declared.clauses.Atom.{Atom}
use Rattle.smt_meaning.specs.declared.clauses.Atom.TheVariants.{Truth}
use Rattle.smt_meaning.specs.declared.values.Sort.{Sort}
use Rattle.smt_meaning.specs.declared.values.Sort.TheVariants.{Bool as Truths}
use Rattle.smt_meaning.specs.Declaration.{Declaration}
use Rattle.smt_meaning.specs.Term.{Tree, node, tree_at}
use Rattle.smt_meaning.specs.TreeShape.{place_of}
use Rattle.smt_meaning.specs.Signature.{tree_sort}
use Rattle.smt_meaning.specs.Nodes.{pick}
use Rattle.smt_meaning.specs.Atoms.{comparison_atoms}
use Rattle.smt_laws.specs.Rows.{place_divisor}
use Rattle.pair_bounds.specs.declared.rows.RowLimit.{RowLimit}
use Rattle.pair_bounds.specs.declared.rows.Row.{Row}
use Rattle.pair_bounds.specs.Rows.{limits, placed_rows}
use Rattle.bound_clauses.specs.declared.orders.Order.{Order}
use Rattle.bound_clauses.specs.Orders.{order_atoms, bound_atom}
use Rattle.order_clauses.specs.declared.pairs.Pair.{Pair}
use Rattle.order_clauses.specs.Pairs.{pair, pairs_of, same_atom, orders_of_pair}
use Rattle.order_clauses.specs.Clauses.{limit_bound, sort_at, by_sort, of_ints}

-- ---- orders

abbrev pub orders_tied : Bool → Pair → List Order
orders_tied int q = if int then orders_of_pair q else []

abbrev pub orders_of_equality : List Sort → Operator → List ℕ → List Order
orders_of_equality sorts o [] = []
orders_of_equality sorts o (i ∷ is) = by_sort (sort_at sorts i) (length (i ∷ is)) (λ int. flat_map (orders_tied int) (pairs_of o (i ∷ is)))

abbrev pub orders_of_choice : List Sort → ℕ → List ℕ → List Order
orders_of_choice sorts p (c ∷ i ∷ j ∷ []) = of_ints (sort_at sorts p) (flat_map orders_of_pair (pair p i ∷ pair p j ∷ []))
orders_of_choice sorts p is = []

abbrev pub orders_of_part : List Sort → Operator → ℕ → List ℕ → List Order
orders_of_part sorts AtMost p is = order_atoms AtMost is
orders_of_part sorts Less p is = order_atoms Less is
orders_of_part sorts AtLeast p is = order_atoms AtLeast is
orders_of_part sorts Greater p is = order_atoms Greater is
orders_of_part sorts Equal p is = orders_of_equality sorts Equal is
orders_of_part sorts Distinct p is = orders_of_equality sorts Distinct is
orders_of_part sorts Ite p is = orders_of_choice sorts p is
orders_of_part sorts o p is = []

-- the limits whose bounds the clauses of a division are over
abbrev pub limits_of_division : List Tree → Operator → ℕ → List ℕ → List RowLimit
limits_of_division ts o p is = flat_map limits (placed_rows o (place_divisor ts is) p is)

-- ---- atoms

abbrev pub atoms_of_order : List Tree → Operator → ℕ → List ℕ → List Atom
atoms_of_order ts o p is = Truth p ∷ map (bound_atom ts) (order_atoms o is)

abbrev pub atoms_of_pair : List Tree → Bool → Pair → List Atom
atoms_of_pair ts int q = same_atom q ∷ map (bound_atom ts) (orders_tied int q)

abbrev pub atoms_of_equality : List Tree → Bool → Operator → ℕ → List ℕ → List Atom
atoms_of_equality ts int o p is = Truth p ∷ flat_map (atoms_of_pair ts int) (pairs_of o is)

abbrev pub atoms_of_choice : List Tree → ℕ → ℕ → ℕ → ℕ → List Atom
atoms_of_choice ts p c i j = Truth c ∷ flat_map (atoms_of_pair ts true) (pair p i ∷ pair p j ∷ [])

abbrev pub equality_atoms_of : List Sort → List Tree → Operator → ℕ → List ℕ → List Atom
equality_atoms_of sorts ts o p [] = []
equality_atoms_of sorts ts o p (i ∷ is) = by_sort (sort_at sorts i) (length (i ∷ is)) (λ int. atoms_of_equality ts int o p (i ∷ is))

abbrev pub choice_atoms_of : List Sort → List Tree → ℕ → List ℕ → List Atom
choice_atoms_of sorts ts p (c ∷ i ∷ j ∷ []) = of_ints (sort_at sorts p) (atoms_of_choice ts p c i j)
choice_atoms_of sorts ts p is = []

abbrev pub row_truth_atoms : ℕ → Option Bool → List Atom
row_truth_atoms p None = []
row_truth_atoms p (Some b) = Truth p ∷ []

abbrev pub atoms_of_row : List Tree → ℕ → Row → List Atom
atoms_of_row ts p r = row_truth_atoms p r.truth ++ map (limit_bound ts) (limits r)

abbrev pub atoms_of_division : List Tree → Operator → ℕ → List ℕ → List Atom
atoms_of_division ts o p is = flat_map (atoms_of_row ts p) (placed_rows o (place_divisor ts is) p is)

abbrev pub atoms_of_part : List Sort → List Tree → Operator → ℕ → List ℕ → List Atom
atoms_of_part sorts ts AtMost p is = atoms_of_order ts AtMost p is
atoms_of_part sorts ts Less p is = atoms_of_order ts Less p is
atoms_of_part sorts ts AtLeast p is = atoms_of_order ts AtLeast p is
atoms_of_part sorts ts Greater p is = atoms_of_order ts Greater p is
atoms_of_part sorts ts Equal p is = equality_atoms_of sorts ts Equal p is
atoms_of_part sorts ts Distinct p is = equality_atoms_of sorts ts Distinct p is
atoms_of_part sorts ts Ite p is = choice_atoms_of sorts ts p is
atoms_of_part sorts ts Divide p is = atoms_of_division ts Divide p is
atoms_of_part sorts ts Modulo p is = atoms_of_division ts Modulo p is
atoms_of_part sorts ts Absolute p is = atoms_of_division ts Absolute p is
atoms_of_part sorts ts Divisible p is = atoms_of_division ts Divisible p is
atoms_of_part sorts ts o p is = []

-- ---- they are atoms that a stack has for the part

-- the truths of terms at these places that are Bools have numbers
abbrev pub HaveTruths : List Declaration → List Tree → List Atom → List ℕ → Type 0
HaveTruths ds ts table is = All (λ i. tree_sort ds (tree_at ts i) ≡ Some Truths → Contains table (Truth i)) is

-- where these have numbers, and the atoms that compare the part's arguments, so have all that the clauses are over
abbrev pub PartAtomsAreOfStack : Type 0
PartAtomsAreOfStack =
    (ds : List Declaration) (ts : List Tree) (sorts : List Sort) (table : List Atom) (o : Operator) (p : ℕ) (is : List ℕ) → tree_at ts p ≡ node (Theory o) (pick ts is)
    → All (λ i. tree_sort ds (tree_at ts i) ≡ Some (sort_at sorts i)) (p ∷ is) → All (λ i. place_of (tree_at ts i) ts ≡ i) (p ∷ is) → HaveTruths ds ts table (p ∷ is)
    → All (Contains table) (comparison_atoms ts ds (Theory o) (pick ts is)) → All (Contains table) (atoms_of_part sorts ts o p is)
