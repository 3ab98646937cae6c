-- The atoms of a part are among those of its stack.
use Rattle.std.proofs.Common.{◌≡◌, ℕ, Bool, true, false, ◌&&◌, List, [], ◌∷◌, ◌++◌, length, map, All, Contains, refl, sym, ap, subst, ◌∙◌}
use Rattle.std.specs.Prelude.{flat_map, IsTrue, Option, Some, None, nat_eq, if◌then◌else◌}
use Rattle.std.proofs.lemmas.List.Elements.{All-cons, All-nil, All-head, All-tail, All-append}
use Rattle.smt_meaning.specs.declared.values.Sort.{Sort}
use Rattle.smt_meaning.specs.declared.values.Sort.TheVariants.{Bool as Truths, Int as Ints, Free}
use Rattle.smt_meaning.specs.declared.terms.Operator.{Operator}
use Rattle.smt_meaning.specs.declared.terms.Operator.TheVariants.{Equal, Distinct, Ite, AtMost, Less, AtLeast, Greater, Divide, Modulo, Absolute, Divisible}
use Rattle.smt_meaning.specs.declared.terms.Head.TheVariants.{Theory}
use Rattle.smt_meaning.specs.declared.clauses.Atom.{Atom}
use Rattle.smt_meaning.specs.declared.clauses.Atom.TheVariants.{Truth, Same}
use Rattle.smt_meaning.specs.Declaration.{Declaration}
use Rattle.smt_meaning.specs.Term.{Tree, node, tree_at}
use Rattle.smt_meaning.specs.TreeShape.{place_of}
use Rattle.smt_meaning.specs.Signature.{tree_sort, is_int, all_of, sort_eq, if_so, operator_sort}
use Rattle.smt_meaning.specs.Nodes.{pick}
use Rattle.smt_meaning.specs.Atoms.{limit_atom, row_atoms, division_atoms, pair_atoms, of_neighbours_from, of_first_with, of_pairs, comparison_atoms}
use Rattle.smt_laws.specs.Rows.{place_form, place_divisor}
use Rattle.pair_bounds.specs.declared.rows.RowLimit.{RowLimit}
use Rattle.pair_bounds.specs.declared.rows.Row.{Row}
use Rattle.pair_bounds.specs.Rows.{limits, limit_of_row, row_of, placed_rows, RowsAreAtoms}
use Rattle.bound_clauses.specs.Orders.{order_atoms, bound_atom}
use Rattle.bound_clauses.specs.Laws.{orders, OrdersAreComparisons}
use Rattle.order_clauses.specs.Pairs.{pair, neighbours, with_each, each_two, pairs_of, orders_of_pair}
use Rattle.order_clauses.specs.Clauses.{limit_bound, sort_at, by_sort, of_ints}
use Rattle.order_clauses.specs.Needed.{row_truth_atoms, atoms_of_row, atoms_of_division, atoms_of_order, atoms_of_pair, atoms_of_equality, atoms_of_choice, HaveTruths, PartAtomsAreOfStack}
use Rattle.order_clauses.specs.Sound.{HasSort}
use Rattle.order_clauses.proofs.Soundness.{All-left, All-right}
use Rattle.order_clauses.proofs.DivisionRows.{IsSilent, quotient_silent, remainder_silent, absolute_silent}
use Rattle.order_clauses.proofs.Sorting.{asked, if_so_true, one_sort, all_ints, and_left}

module _ (ds : List Declaration) (ts : List Tree) (table : List Atom) where
  abbrev IsPlaced : ℕ → Type 0
  IsPlaced i = place_of (tree_at ts i) ts ≡ i

  abbrev IsInt : ℕ → Type 0
  IsInt i = tree_sort ds (tree_at ts i) ≡ Some Ints

  bounds_in : (b : Bool) (a : Atom) (xs : List Atom) → b ≡ true → All (Contains table) (a ∷ (if b then xs else [])) → All (Contains table) xs
  bounds_in true a xs e h = All-tail (Contains table) a xs h
  bounds_in false a xs e h = absurd (let x : false ≡ true = e in cc)

  of_pair : (int : Bool) (i j : ℕ) → IsPlaced i → IsPlaced j → (int ≡ true → IsInt i) → All (Contains table) (pair_atoms ts ds (tree_at ts i) (tree_at ts j)) → All (Contains table) (atoms_of_pair ts int (pair i j))
  of_pair int i j pi pj ints h = by int ints
    where
      same : Contains table (Same i j)
      same =
          subst (λ k. Contains table (Same i k)) pj (subst (λ k. Contains table (Same k (place_of (tree_at ts j) ts))) pi
          (All-head (Contains table) (Same (place_of (tree_at ts i) ts) (place_of (tree_at ts j) ts)) (if is_int (tree_sort ds (tree_at ts i)) then map (bound_atom ts) (orders_of_pair (pair i j)) else []) h))

      by : (b : Bool) → (b ≡ true → IsInt i) → All (Contains table) (atoms_of_pair ts b (pair i j))
      by true f =
          All-cons (Contains table) (Same i j) (map (bound_atom ts) (orders_of_pair (pair i j))) same
          (bounds_in (is_int (tree_sort ds (tree_at ts i))) (Same (place_of (tree_at ts i) ts) (place_of (tree_at ts j) ts)) (map (bound_atom ts) (orders_of_pair (pair i j))) (ap is_int (f refl)) h)
      by false f = All-cons (Contains table) (Same i j) [] same (All-nil (Contains table))

  abbrev AreInts : Bool → List ℕ → Type 0
  AreInts int is = int ≡ true → All IsInt is

  of_neighbours : (int : Bool) (i : ℕ) (js : List ℕ) → All IsPlaced (i ∷ js) → AreInts int (i ∷ js) → All (Contains table) (of_neighbours_from (pair_atoms ts ds) (tree_at ts i) (pick ts js))
      → All (Contains table) (flat_map (atoms_of_pair ts int) (neighbours i js))
  of_neighbours int i [] p ints h = All-nil (Contains table)
  of_neighbours int i (j ∷ js) p ints h =
      let rest : All IsPlaced (j ∷ js) = All-tail IsPlaced i (j ∷ js) p in
      let first : List Atom = pair_atoms ts ds (tree_at ts i) (tree_at ts j) in
      let others : List Atom = of_neighbours_from (pair_atoms ts ds) (tree_at ts j) (pick ts js) in
      All-append (Contains table) (atoms_of_pair ts int (pair i j)) (flat_map (atoms_of_pair ts int) (neighbours j js))
      (of_pair int i j (All-head IsPlaced i (j ∷ js) p) (All-head IsPlaced j js rest) (λ e. All-head IsInt i (j ∷ js) (ints e)) (All-left (Contains table) first others h))
      (of_neighbours int j js rest (λ e. All-tail IsInt i (j ∷ js) (ints e)) (All-right (Contains table) first others h))

  of_first : (int : Bool) (i : ℕ) (js : List ℕ) → All IsPlaced (i ∷ js) → (int ≡ true → IsInt i) → All (Contains table) (of_first_with (pair_atoms ts ds) (tree_at ts i) (pick ts js))
      → All (Contains table) (flat_map (atoms_of_pair ts int) (with_each i js))
  of_first int i [] p ints h = All-nil (Contains table)
  of_first int i (j ∷ js) p ints h =
      let own : IsPlaced i = All-head IsPlaced i (j ∷ js) p in
      let rest : All IsPlaced (j ∷ js) = All-tail IsPlaced i (j ∷ js) p in
      let first : List Atom = pair_atoms ts ds (tree_at ts i) (tree_at ts j) in
      let others : List Atom = of_first_with (pair_atoms ts ds) (tree_at ts i) (pick ts js) in
      All-append (Contains table) (atoms_of_pair ts int (pair i j)) (flat_map (atoms_of_pair ts int) (with_each i js))
      (of_pair int i j own (All-head IsPlaced j js rest) ints (All-left (Contains table) first others h))
      (of_first int i js (All-cons IsPlaced i js own (All-tail IsPlaced j js rest)) ints (All-right (Contains table) first others h))

  flat_append : {A B : Type 0} (f : A → List B) (P : B → Type 0) (xs ys : List A) → All P (flat_map f xs) → All P (flat_map f ys) → All P (flat_map f (xs ++ ys))
  flat_append f P [] ys h k = k
  flat_append f P (x ∷ xs) ys h k =
      All-append P (f x) (flat_map f (xs ++ ys)) (All-left P (f x) (flat_map f xs) h) (flat_append f P xs ys (All-right P (f x) (flat_map f xs) h) k)

  of_each_two : (int : Bool) (is : List ℕ) → All IsPlaced is → AreInts int is → All (Contains table) (of_pairs (pair_atoms ts ds) (pick ts is)) → All (Contains table) (flat_map (atoms_of_pair ts int) (each_two is))
  of_each_two int [] p ints h = All-nil (Contains table)
  of_each_two int (i ∷ is) p ints h =
      let first : List Atom = of_first_with (pair_atoms ts ds) (tree_at ts i) (pick ts is) in
      let others : List Atom = of_pairs (pair_atoms ts ds) (pick ts is) in
      flat_append (atoms_of_pair ts int) (Contains table) (with_each i is) (each_two is)
      (of_first int i is p (λ e. All-head IsInt i is (ints e)) (All-left (Contains table) first others h))
      (of_each_two int is (All-tail IsPlaced i is p) (λ e. All-tail IsInt i is (ints e)) (All-right (Contains table) first others h))

no_int : (A : Type 0) → false ≡ true → A
no_int A e = absurd (let x : false ≡ true = e in cc)

bool_is : (s : Sort) → sort_eq s Truths ≡ true → s ≡ Truths
bool_is Truths h = refl
bool_is Ints h = absurd (let x : false ≡ true = h in cc)
bool_is (Free a) h = absurd (let x : false ≡ true = h in cc)

module _ (compared : OrdersAreComparisons) (ds : List Declaration) (ts : List Tree) (sorts : List Sort) (table : List Atom) where
  own_truth : (p : ℕ) (is : List ℕ) → All (HasSort ds ts sorts) (p ∷ is) → HaveTruths ds ts table (p ∷ is) → Truths ≡ sort_at sorts p → Contains table (Truth p)
  own_truth p is sorted truths e =
      All-head (λ i. tree_sort ds (tree_at ts i) ≡ Some Truths → Contains table (Truth i)) p is truths (All-head (HasSort ds ts sorts) p is sorted ∙ ap Some (sym e))

  of_order : (o : Operator) (p : ℕ) (is : List ℕ) → IsTrue (orders o) → Contains table (Truth p) → All (Contains table) (comparison_atoms ts ds (Theory o) (pick ts is)) → All (Contains table) (atoms_of_order ts o p is)
  of_order o p is h truth has = All-cons (Contains table) (Truth p) (map (bound_atom ts) (order_atoms o is)) truth (subst (All (Contains table)) (compared ts ds o is h) has)

  of_sort : (s : Sort) (o : Operator) (p : ℕ) (is : List ℕ) → Contains table (Truth p) → ((int : Bool) → (int ≡ true → s ≡ Ints) → All (Contains table) (flat_map (atoms_of_pair ts int) (pairs_of o is)))
      → All (Contains table) (by_sort s (length is) (λ int. atoms_of_equality ts int o p is))
  of_sort Truths o p is t f = All-nil (Contains table)
  of_sort Ints o p is t f = All-cons (Contains table) (Truth p) (flat_map (atoms_of_pair ts true) (pairs_of o is)) t (f true (λ x. refl))
  of_sort (Free a) o p is t f = unless_two (nat_eq (length is) 2)
    where
      unless_two : (two : Bool) → All (Contains table) (if two then [] else atoms_of_equality ts false o p is)
      unless_two true = All-nil (Contains table)
      unless_two false = All-cons (Contains table) (Truth p) (flat_map (atoms_of_pair ts false) (pairs_of o is)) t (f false (λ x. no_int (Free a ≡ Ints) x))

  of_choice : (p c i j : ℕ) (s : Sort) → Contains table (Truth c) → (s ≡ Ints → All (Contains table) (flat_map (atoms_of_pair ts true) (pair p i ∷ pair p j ∷ [])))
      → All (Contains table) (of_ints s (atoms_of_choice ts p c i j))
  of_choice p c i j Truths t f = All-nil (Contains table)
  of_choice p c i j Ints t f = All-cons (Contains table) (Truth c) (flat_map (atoms_of_pair ts true) (pair p i ∷ pair p j ∷ [])) t (f refl)
  of_choice p c i j (Free a) t f = All-nil (Contains table)

  -- a term with this operator is a Bool, where the operator asks a test of the sorts
  is_bool_by : (o : Operator) (b : Bool) (p : ℕ) (is : List ℕ) → tree_at ts p ≡ node (Theory o) (pick ts is) → All (HasSort ds ts sorts) (p ∷ is)
      → operator_sort o (map (sort_at sorts) is) ≡ if_so b Truths → Truths ≡ sort_at sorts p
  is_bool_by o b p is e sorted says =
      (if_so_true b Truths (sort_at sorts p) (sym says ∙ asked ds ts sorts o p is e (All-head (HasSort ds ts sorts) p is sorted) (All-tail (HasSort ds ts sorts) p is sorted))).1

  at_order : (o : Operator) (p : ℕ) (is : List ℕ) → IsTrue (orders o) → operator_sort o (map (sort_at sorts) is) ≡ if_so (all_of Ints (map (sort_at sorts) is)) Truths
      → tree_at ts p ≡ node (Theory o) (pick ts is) → All (HasSort ds ts sorts) (p ∷ is) → HaveTruths ds ts table (p ∷ is)
      → All (Contains table) (comparison_atoms ts ds (Theory o) (pick ts is)) → All (Contains table) (atoms_of_order ts o p is)
  at_order o p is h says e sorted truths has = of_order o p is h (own_truth p is sorted truths (is_bool_by o (all_of Ints (map (sort_at sorts) is)) p is e sorted says)) has

  -- of `=` and `distinct`, whose arguments are of one sort
  at_equality : (o : Operator) (p i : ℕ) (is : List ℕ) → operator_sort o (map (sort_at sorts) (i ∷ is)) ≡ if_so (all_of (sort_at sorts i) (map (sort_at sorts) is)) Truths
      → tree_at ts p ≡ node (Theory o) (pick ts (i ∷ is)) → All (HasSort ds ts sorts) (p ∷ i ∷ is) → HaveTruths ds ts table (p ∷ i ∷ is)
      → ((int : Bool) → (int ≡ true → All (λ j. tree_sort ds (tree_at ts j) ≡ Some Ints) (i ∷ is)) → All (Contains table) (flat_map (atoms_of_pair ts int) (pairs_of o (i ∷ is))))
      → All (Contains table) (by_sort (sort_at sorts i) (length (i ∷ is)) (λ int. atoms_of_equality ts int o p (i ∷ is)))
  at_equality o p i is says e sorted truths pairs =
      let one = one_sort ds ts sorts o p i is says e sorted in
      of_sort (sort_at sorts i) o p (i ∷ is) (own_truth p (i ∷ is) sorted truths one.bool) (λ int h. pairs int (λ x. all_ints ds ts sorts p i is one (h x)))

-- ---- of divisions

module _ (ts : List Tree) (table : List Atom) (p : ℕ) where
  -- the truth has a number, where the row speaks of it
  abbrev KnowsTruth : Row → Type 0
  KnowsTruth r = (b : Bool) → r.truth ≡ Some b → Contains table (Truth p)

  truths_in : (o : Option Bool) → ((b : Bool) → o ≡ Some b → Contains table (Truth p)) → All (Contains table) (row_truth_atoms p o)
  truths_in None h = All-nil (Contains table)
  truths_in (Some b) h = All-cons (Contains table) (Truth p) [] (h b refl) (All-nil (Contains table))

  bounds_map : (ls : List RowLimit) → All (Contains table) (map (limit_atom (place_form ts)) (map limit_of_row ls)) → All (Contains table) (map (limit_bound ts) ls)
  bounds_map [] h = All-nil (Contains table)
  bounds_map (l ∷ ls) h =
      All-cons (Contains table) (limit_bound ts l) (map (limit_bound ts) ls) (All-head (Contains table) (limit_bound ts l) (map (limit_atom (place_form ts)) (map limit_of_row ls)) h)
      (bounds_map ls (All-tail (Contains table) (limit_bound ts l) (map (limit_atom (place_form ts)) (map limit_of_row ls)) h))

  rows_in : (rs : List Row) → All KnowsTruth rs → All (Contains table) (flat_map (row_atoms (place_form ts)) (map row_of rs)) → All (Contains table) (flat_map (atoms_of_row ts p) rs)
  rows_in [] t h = All-nil (Contains table)
  rows_in (r ∷ rs) t h =
      let own : List Atom = row_atoms (place_form ts) (row_of r) in
      let others : List Atom = flat_map (row_atoms (place_form ts)) (map row_of rs) in
      All-append (Contains table) (atoms_of_row ts p r) (flat_map (atoms_of_row ts p) rs)
      (All-append (Contains table) (row_truth_atoms p r.truth) (map (limit_bound ts) (limits r)) (truths_in r.truth (All-head KnowsTruth r rs t)) (bounds_map (limits r) (All-left (Contains table) own others h)))
      (rows_in rs (All-tail KnowsTruth r rs t) (All-right (Contains table) own others h))

  division_in : RowsAreAtoms → (o : Operator) (is : List ℕ) → tree_at ts p ≡ node (Theory o) (pick ts is) → All KnowsTruth (placed_rows o (place_divisor ts is) p is)
      → All (Contains table) (division_atoms ts (Theory o) (pick ts is)) → All (Contains table) (atoms_of_division ts o p is)
  division_in atoms_are o is e t h =
      let a = atoms_are ts o p is e in
      rows_in (placed_rows o (place_divisor ts is) p is) t
      (subst (λ rs. All (Contains table) (flat_map (row_atoms (place_form ts)) rs)) (sym a.rows) (subst (All (Contains table)) a.atoms h))

  silent_knows : (rs : List Row) → All IsSilent rs → All KnowsTruth rs
  silent_knows rs h = λ k d l b e. absurd (some_none b (sym e ∙ h k d l))
    where
      some_none : (b : Bool) → Some b ≡ None → ⊥
      some_none b e = cc

pub part_atoms : OrdersAreComparisons → RowsAreAtoms → PartAtomsAreOfStack
part_atoms compared rows ds ts sorts table AtMost p is e sorted placed truths has = at_order compared ds ts sorts table AtMost p is refl refl e sorted truths has
part_atoms compared rows ds ts sorts table Less p is e sorted placed truths has = at_order compared ds ts sorts table Less p is refl refl e sorted truths has
part_atoms compared rows ds ts sorts table AtLeast p is e sorted placed truths has = at_order compared ds ts sorts table AtLeast p is refl refl e sorted truths has
part_atoms compared rows ds ts sorts table Greater p is e sorted placed truths has = at_order compared ds ts sorts table Greater p is refl refl e sorted truths has
part_atoms compared rows ds ts sorts table Equal p [] e sorted placed truths has = All-nil (Contains table)
part_atoms compared rows ds ts sorts table Equal p (i ∷ is) e sorted placed truths has =
    at_equality compared ds ts sorts table Equal p i is refl e sorted truths
    (λ int ints. of_neighbours ds ts table int i is (All-tail (IsPlaced ds ts table) p (i ∷ is) placed) ints has)
part_atoms compared rows ds ts sorts table Distinct p [] e sorted placed truths has = All-nil (Contains table)
part_atoms compared rows ds ts sorts table Distinct p (i ∷ is) e sorted placed truths has =
    at_equality compared ds ts sorts table Distinct p i is refl e sorted truths
    (λ int ints. of_each_two ds ts table int (i ∷ is) (All-tail (IsPlaced ds ts table) p (i ∷ is) placed) ints has)
part_atoms compared rows ds ts sorts table Ite p (c ∷ i ∷ j ∷ []) e sorted placed truths has =
    let own : HasSort ds ts sorts p = All-head (HasSort ds ts sorts) p (c ∷ i ∷ j ∷ []) sorted in
    let rest : All (HasSort ds ts sorts) (c ∷ i ∷ j ∷ []) = All-tail (HasSort ds ts sorts) p (c ∷ i ∷ j ∷ []) sorted in
    let place_p : IsPlaced ds ts table p = All-head (IsPlaced ds ts table) p (c ∷ i ∷ j ∷ []) placed in
    let places : All (IsPlaced ds ts table) (i ∷ j ∷ []) = All-tail (IsPlaced ds ts table) c (i ∷ j ∷ []) (All-tail (IsPlaced ds ts table) p (c ∷ i ∷ j ∷ []) placed) in
    let place_i : IsPlaced ds ts table i = All-head (IsPlaced ds ts table) i (j ∷ []) places in
    let place_j : IsPlaced ds ts table j = All-head (IsPlaced ds ts table) j [] (All-tail (IsPlaced ds ts table) i (j ∷ []) places) in
    let says : ((sort_eq (sort_at sorts c) Truths && sort_eq (sort_at sorts i) (sort_at sorts j)) ≡ true) × (sort_at sorts i ≡ sort_at sorts p) =
    if_so_true (sort_eq (sort_at sorts c) Truths && sort_eq (sort_at sorts i) (sort_at sorts j)) (sort_at sorts i) (sort_at sorts p) (asked ds ts sorts Ite p (c ∷ i ∷ j ∷ []) e own rest) in
    let bool_c : sort_at sorts c ≡ Truths = bool_is (sort_at sorts c) (and_left (sort_eq (sort_at sorts c) Truths) (sort_eq (sort_at sorts i) (sort_at sorts j)) says.0) in
    let truth : Contains table (Truth c) =
    own_truth compared ds ts sorts table c (i ∷ j ∷ []) rest (All-tail (λ k. tree_sort ds (tree_at ts k) ≡ Some Truths → Contains table (Truth k)) p (c ∷ i ∷ j ∷ []) truths) (sym bool_c) in
    let first : List Atom = pair_atoms ts ds (tree_at ts p) (tree_at ts i) in
    let second : List Atom = pair_atoms ts ds (tree_at ts p) (tree_at ts j) in
    let both : All (Contains table) (first ++ second) =
    subst (λ t. All (Contains table) (pair_atoms ts ds t (tree_at ts i) ++ pair_atoms ts ds t (tree_at ts j))) (sym e) has in
    of_choice compared ds ts sorts table p c i j (sort_at sorts p) truth
    (λ h.
    let int_p : true ≡ true → IsInt ds ts table p = λ x. own ∙ ap Some h in
    All-append (Contains table) (atoms_of_pair ts true (pair p i)) (atoms_of_pair ts true (pair p j) ++ [])
    (of_pair ds ts table true p i place_p place_i int_p (All-left (Contains table) first second both))
    (All-append (Contains table) (atoms_of_pair ts true (pair p j)) [] (of_pair ds ts table true p j place_p place_j int_p (All-right (Contains table) first second both)) (All-nil (Contains table))))
part_atoms compared rows ds ts sorts table Divide p is e sorted placed truths has =
    division_in ts table p rows Divide is e (silent_knows ts table p (placed_rows Divide (place_divisor ts is) p is) (quotient_silent (place_divisor ts is) p is)) has
part_atoms compared rows ds ts sorts table Modulo p is e sorted placed truths has =
    division_in ts table p rows Modulo is e (silent_knows ts table p (placed_rows Modulo (place_divisor ts is) p is) (remainder_silent (place_divisor ts is) p is)) has
part_atoms compared rows ds ts sorts table Absolute p is e sorted placed truths has =
    division_in ts table p rows Absolute is e (silent_knows ts table p (placed_rows Absolute (place_divisor ts is) p is) (absolute_silent (place_divisor ts is) p is)) has
part_atoms compared rows ds ts sorts table Divisible p is e sorted placed truths has =
    let truth : Contains table (Truth p) =
    own_truth compared ds ts sorts table p is sorted truths (is_bool_by compared ds ts sorts table Divisible (all_of Ints (map (sort_at sorts) is)) p is e sorted refl) in
    division_in ts table p rows Divisible is e (λ k d l b x. truth) has
part_atoms compared rows ds ts sorts table o p is e sorted placed truths has = All-nil (Contains table)
