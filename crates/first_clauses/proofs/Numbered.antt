-- The atoms that the clauses of a part are over have numbers, where the part's own have.
use Rattle.std.proofs.Common.{◌≡◌, ℕ, Bool, true, false, ◌&&◌, List, [], ◌∷◌, ◌++◌, length, map, All, Contains, refl, sym, ap, subst, ◌∙◌}
use Rattle.std.specs.Prelude.{flat_map, Option, Some, None, nat_eq, if◌then◌else◌}
use Rattle.std.proofs.lemmas.List.Elements.{All-cons, All-nil, All-head, All-tail, All-append}
use Rattle.smt_meaning.specs.declared.values.Sort.{Sort}
use Rattle.smt_meaning.specs.declared.values.Sort.TheVariants.{Bool as Truths, Int as Ints, Free}
use Rattle.smt_meaning.specs.declared.terms.Operator.{Operator}
use Rattle.smt_meaning.specs.declared.terms.Operator.TheVariants.{Equal, Distinct, Ite, AtMost, Less, AtLeast, Greater, Divide, Modulo, Absolute, Divisible}
use Rattle.smt_meaning.specs.declared.terms.Head.TheVariants.{Theory}
use Rattle.smt_meaning.specs.declared.clauses.Atom.{Atom}
use Rattle.smt_meaning.specs.declared.clauses.Atom.TheVariants.{Truth}
use Rattle.smt_meaning.specs.Declaration.{Declaration}
use Rattle.smt_meaning.specs.Term.{Tree, node, tree_at}
use Rattle.smt_meaning.specs.Signature.{tree_sort, all_of, sort_eq, if_so, operator_sort}
use Rattle.smt_meaning.specs.Nodes.{pick}
use Rattle.smt_laws.specs.Rows.{place_divisor}
use Rattle.pair_bounds.specs.declared.rows.RowLimit.{RowLimit}
use Rattle.pair_bounds.specs.declared.rows.Row.{Row}
use Rattle.pair_bounds.specs.Rows.{limits, placed_rows}
use Rattle.bound_clauses.specs.declared.orders.Order.{Order}
use Rattle.bound_clauses.specs.Orders.{order_atoms, bound_atom}
use Rattle.check_atoms.specs.declared.part.PartAtom.{PartAtom}
use Rattle.check_atoms.specs.declared.part.PartAtom.TheVariants.{Bound, Limit}
use Rattle.check_atoms.specs.PartAtoms.{atom_of, by_sort as part_by_sort, alone_by_sort, pair as part_pair, alone, neighbours_from, first_with, each_two as each_two_atoms, of_equal, of_distinct, compared, sort_of}
use Rattle.check_atoms.proofs.Sorting.{sort_is}
use Rattle.order_clauses.specs.declared.pairs.Pair.{Pair}
use Rattle.order_clauses.specs.Pairs.{pair, neighbours, with_each, each_two, pairs_of}
use Rattle.order_clauses.specs.Clauses.{limit_bound, sort_at, by_sort, of_ints}
use Rattle.order_clauses.specs.Needed.{row_truth_atoms, atoms_of_row, atoms_of_pair, atoms_of_equality, atoms_of_choice, atoms_of_part, HaveTruths}
use Rattle.order_clauses.specs.Sound.{HasSort}
use Rattle.order_clauses.proofs.DivisionRows.{IsSilent, quotient_silent, remainder_silent, absolute_silent}
use Rattle.order_clauses.proofs.Sorting.{asked, if_so_true, one_sort, and_left}

module _ (ds : List Declaration) (ts : List Tree) (table : List Atom) where
  abbrev AreIn : List PartAtom → Type 0
  AreIn cs = All (Contains table) (map (atom_of ts) cs)

  abbrev sort : ℕ → Option Sort
  sort = sort_of ds ts

  left_in : (xs ys : List PartAtom) → AreIn (xs ++ ys) → AreIn xs
  left_in [] ys h = All-nil (Contains table)
  left_in (x ∷ xs) ys h =
      All-cons (Contains table) (atom_of ts x) (map (atom_of ts) xs) (All-head (Contains table) (atom_of ts x) (map (atom_of ts) (xs ++ ys)) h)
      (left_in xs ys (All-tail (Contains table) (atom_of ts x) (map (atom_of ts) (xs ++ ys)) h))

  right_in : (xs ys : List PartAtom) → AreIn (xs ++ ys) → AreIn ys
  right_in [] ys h = h
  right_in (x ∷ xs) ys h = right_in xs ys (All-tail (Contains table) (atom_of ts x) (map (atom_of ts) (xs ++ ys)) h)

  -- ---- pairs

  -- pairs of terms of this sort have equalities, of Ints with bounds
  abbrev Compares : Sort → Bool → Type 0
  Compares Truths b = ⊥
  Compares Ints true = Unit {0}
  Compares Ints false = ⊥
  Compares (Free n) true = ⊥
  Compares (Free n) false = Unit {0}

  pair_by : (r : Sort) (int : Bool) (i j : ℕ) → Compares r int → AreIn (part_by_sort (Some r) i j) → All (Contains table) (atoms_of_pair ts int (pair i j))
  pair_by Truths int i j c h = absurd c
  pair_by Ints true i j c h = h
  pair_by Ints false i j c h = absurd c
  pair_by (Free n) true i j c h = absurd c
  pair_by (Free n) false i j c h = h

  pair_in : (r : Sort) (int : Bool) (i j : ℕ) → Compares r int → sort i ≡ Some r → AreIn (part_pair sort i j) → All (Contains table) (atoms_of_pair ts int (pair i j))
  pair_in r int i j c e h = pair_by r int i j c (subst (λ o. AreIn (part_by_sort o i j)) e h)

  alone_in : (i j : ℕ) → sort i ≡ Some Ints → AreIn (alone sort i j) → All (Contains table) (atoms_of_pair ts true (pair i j))
  alone_in i j e h = subst (λ o. AreIn (alone_by_sort o i j)) e h

  single_in : (i j : ℕ) → sort i ≡ Some Ints → AreIn (alone sort i j) → All (Contains table) (atoms_of_pair ts true (pair i j) ++ [])
  single_in i j e h = All-append (Contains table) (atoms_of_pair ts true (pair i j)) [] (alone_in i j e h) (All-nil (Contains table))

  flat_append : (f : Pair → List Atom) (xs ys : List Pair) → All (Contains table) (flat_map f xs) → All (Contains table) (flat_map f ys) → All (Contains table) (flat_map f (xs ++ ys))
  flat_append f [] ys h k = k
  flat_append f (x ∷ xs) ys h k =
      All-append (Contains table) (f x) (flat_map f (xs ++ ys)) (parts (f x) (flat_map f xs) h).0 (flat_append f xs ys (parts (f x) (flat_map f xs) h).1 k)
    where
      parts : (cs bs : List Atom) → All (Contains table) (cs ++ bs) → All (Contains table) cs × All (Contains table) bs
      parts [] bs h = (All-nil (Contains table), h)
      parts (a ∷ cs) bs h =
          let rest = parts cs bs (All-tail (Contains table) a (cs ++ bs) h) in
          (All-cons (Contains table) a cs (All-head (Contains table) a (cs ++ bs) h) rest.0, rest.1)

  module _ (r : Sort) (int : Bool) (c : Compares r int) where
    abbrev IsOfSort : ℕ → Type 0
    IsOfSort k = sort k ≡ Some r

    neighbours_in : (i : ℕ) (js : List ℕ) → All IsOfSort (i ∷ js) → AreIn (neighbours_from sort i js) → All (Contains table) (flat_map (atoms_of_pair ts int) (neighbours i js))
    neighbours_in i [] s h = All-nil (Contains table)
    neighbours_in i (j ∷ js) s h =
        All-append (Contains table) (atoms_of_pair ts int (pair i j)) (flat_map (atoms_of_pair ts int) (neighbours j js))
        (pair_in r int i j c (All-head IsOfSort i (j ∷ js) s) (left_in (part_pair sort i j) (neighbours_from sort j js) h))
        (neighbours_in j js (All-tail IsOfSort i (j ∷ js) s) (right_in (part_pair sort i j) (neighbours_from sort j js) h))

    first_in : (i : ℕ) (js : List ℕ) → IsOfSort i → AreIn (first_with sort i js) → All (Contains table) (flat_map (atoms_of_pair ts int) (with_each i js))
    first_in i [] s h = All-nil (Contains table)
    first_in i (j ∷ js) s h =
        All-append (Contains table) (atoms_of_pair ts int (pair i j)) (flat_map (atoms_of_pair ts int) (with_each i js))
        (pair_in r int i j c s (left_in (part_pair sort i j) (first_with sort i js) h)) (first_in i js s (right_in (part_pair sort i j) (first_with sort i js) h))

    two_in : (is : List ℕ) → All IsOfSort is → AreIn (each_two_atoms sort is) → All (Contains table) (flat_map (atoms_of_pair ts int) (each_two is))
    two_in [] s h = All-nil (Contains table)
    two_in (i ∷ is) s h =
        flat_append (atoms_of_pair ts int) (with_each i is) (each_two is)
        (first_in i is (All-head IsOfSort i is s) (left_in (first_with sort i is) (each_two_atoms sort is) h))
        (two_in is (All-tail IsOfSort i is s) (right_in (first_with sort i is) (each_two_atoms sort is) h))

  -- what an operator compares of more than two, or of Ints, is known by the pairs that it compares; one that compares two elements has no clauses
  compared_in : (r : Sort) (o : Operator) (p : ℕ) (is : List ℕ) → Contains table (Truth p)
      → ((int : Bool) → Compares r int → (int ≡ false → nat_eq (length is) 2 ≡ false) → All (Contains table) (flat_map (atoms_of_pair ts int) (pairs_of o is)))
      → All (Contains table) (by_sort r (length is) (λ int. atoms_of_equality ts int o p is))
  compared_in Truths o p is t f = All-nil (Contains table)
  compared_in Ints o p is t f = All-cons (Contains table) (Truth p) (flat_map (atoms_of_pair ts true) (pairs_of o is)) t (f true tt (λ e. absurd cc))
  compared_in (Free n) o p is t f = by (nat_eq (length is) 2) refl
    where
      by : (b : Bool) → nat_eq (length is) 2 ≡ b → All (Contains table) (if b then [] else atoms_of_equality ts false o p is)
      by true e = All-nil (Contains table)
      by false e = All-cons (Contains table) (Truth p) (flat_map (atoms_of_pair ts false) (pairs_of o is)) t (f false tt (λ _. e))

  two_told : (r : Sort) (int : Bool) (i j : ℕ) → Compares r int → (int ≡ false → true ≡ false) → sort i ≡ Some r → AreIn (alone sort i j) → All (Contains table) (atoms_of_pair ts int (pair i j) ++ [])
  two_told Truths int i j c more s h = absurd c
  two_told Ints true i j c more s h = single_in i j s h
  two_told Ints false i j c more s h = absurd c
  two_told (Free n) true i j c more s h = absurd c
  two_told (Free n) false i j c more s h = absurd (let x : true ≡ false = more refl in cc)

  equal_told : (r : Sort) (int : Bool) (is : List ℕ) → Compares r int → (int ≡ false → nat_eq (length is) 2 ≡ false) → All (λ k. sort k ≡ Some r) is → AreIn (of_equal sort is)
      → All (Contains table) (flat_map (atoms_of_pair ts int) (pairs_of Equal is))
  equal_told r int [] c more s h = All-nil (Contains table)
  equal_told r int (i ∷ []) c more s h = All-nil (Contains table)
  equal_told r int (i ∷ j ∷ []) c more s h = two_told r int i j c more (All-head (λ k. sort k ≡ Some r) i (j ∷ []) s) h
  equal_told r int (i ∷ j ∷ k ∷ ls) c more s h = neighbours_in r int c i (j ∷ k ∷ ls) s h

  distinct_told : (r : Sort) (int : Bool) (is : List ℕ) → Compares r int → (int ≡ false → nat_eq (length is) 2 ≡ false) → All (λ k. sort k ≡ Some r) is → AreIn (of_distinct sort is)
      → All (Contains table) (flat_map (atoms_of_pair ts int) (pairs_of Distinct is))
  distinct_told r int (i ∷ j ∷ []) c more s h = two_told r int i j c more (All-head (λ k. sort k ≡ Some r) i (j ∷ []) s) h
  distinct_told r int [] c more s h = two_in r int c [] s h
  distinct_told r int (i ∷ []) c more s h = two_in r int c (i ∷ []) s h
  distinct_told r int (i ∷ j ∷ k ∷ ls) c more s h = two_in r int c (i ∷ j ∷ k ∷ ls) s h

  choice_in : (r : Sort) (p c i j : ℕ) → sort p ≡ Some r → Contains table (Truth c) → AreIn (alone sort p i ++ alone sort p j) → All (Contains table) (of_ints r (atoms_of_choice ts p c i j))
  choice_in Truths p c i j e t h = All-nil (Contains table)
  choice_in Ints p c i j e t h =
      All-cons (Contains table) (Truth c) (atoms_of_pair ts true (pair p i) ++ (atoms_of_pair ts true (pair p j) ++ [])) t
      (All-append (Contains table) (atoms_of_pair ts true (pair p i)) (atoms_of_pair ts true (pair p j) ++ []) (alone_in p i e (left_in (alone sort p i) (alone sort p j) h))
      (single_in p j e (right_in (alone sort p i) (alone sort p j) h)))
  choice_in (Free n) p c i j e t h = All-nil (Contains table)

  -- ---- bounds

  orders_in : (os : List Order) → AreIn (map Bound os) → All (Contains table) (map (bound_atom ts) os)
  orders_in [] h = All-nil (Contains table)
  orders_in (o ∷ os) h =
      All-cons (Contains table) (bound_atom ts o) (map (bound_atom ts) os) (All-head (Contains table) (bound_atom ts o) (map (atom_of ts) (map Bound os)) h)
      (orders_in os (All-tail (Contains table) (bound_atom ts o) (map (atom_of ts) (map Bound os)) h))

  left_limits : (ls ms : List RowLimit) → AreIn (map Limit (ls ++ ms)) → All (Contains table) (map (limit_bound ts) ls)
  left_limits [] ms h = All-nil (Contains table)
  left_limits (l ∷ ls) ms h =
      All-cons (Contains table) (limit_bound ts l) (map (limit_bound ts) ls) (All-head (Contains table) (limit_bound ts l) (map (atom_of ts) (map Limit (ls ++ ms))) h)
      (left_limits ls ms (All-tail (Contains table) (limit_bound ts l) (map (atom_of ts) (map Limit (ls ++ ms))) h))

  right_limits : (ls ms : List RowLimit) → AreIn (map Limit (ls ++ ms)) → AreIn (map Limit ms)
  right_limits [] ms h = h
  right_limits (l ∷ ls) ms h = right_limits ls ms (All-tail (Contains table) (limit_bound ts l) (map (atom_of ts) (map Limit (ls ++ ms))) h)

  -- the truth has a number, where the row speaks of it
  abbrev KnowsTruth : ℕ → Row → Type 0
  KnowsTruth p r = (b : Bool) → r.truth ≡ Some b → Contains table (Truth p)

  truths_in : (p : ℕ) (o : Option Bool) → ((b : Bool) → o ≡ Some b → Contains table (Truth p)) → All (Contains table) (row_truth_atoms p o)
  truths_in p None h = All-nil (Contains table)
  truths_in p (Some b) h = All-cons (Contains table) (Truth p) [] (h b refl) (All-nil (Contains table))

  rows_in : (p : ℕ) (rs : List Row) → All (KnowsTruth p) rs → AreIn (map Limit (flat_map limits rs)) → All (Contains table) (flat_map (atoms_of_row ts p) rs)
  rows_in p [] t h = All-nil (Contains table)
  rows_in p (r ∷ rs) t h =
      All-append (Contains table) (atoms_of_row ts p r) (flat_map (atoms_of_row ts p) rs)
      (All-append (Contains table) (row_truth_atoms p r.truth) (map (limit_bound ts) (limits r)) (truths_in p r.truth (All-head (KnowsTruth p) r rs t)) (left_limits (limits r) (flat_map limits rs) h))
      (rows_in p rs (All-tail (KnowsTruth p) r rs t) (right_limits (limits r) (flat_map limits rs) h))

  silent_knows : (p : ℕ) (rs : List Row) → All IsSilent rs → All (KnowsTruth p) rs
  silent_knows p rs h = λ k d l b e. absurd (some_none b (sym e ∙ h k d l))
    where
      some_none : (b : Bool) → Some b ≡ None → ⊥
      some_none b e = cc

-- ---- of a part

module _ (ds : List Declaration) (ts : List Tree) (sorts : List Sort) (table : List Atom) where
  module _ (p : ℕ) (is : List ℕ) (sorted : All (HasSort ds ts sorts) (p ∷ is)) (truths : HaveTruths ds ts table (p ∷ is)) where
    abbrev own : HasSort ds ts sorts p
    own = All-head (HasSort ds ts sorts) p is sorted

    abbrev rest : All (HasSort ds ts sorts) is
    rest = All-tail (HasSort ds ts sorts) p is sorted

    own_truth : Truths ≡ sort_at sorts p → Contains table (Truth p)
    own_truth e = All-head (λ i. tree_sort ds (tree_at ts i) ≡ Some Truths → Contains table (Truth i)) p is truths (own ∙ ap Some (sym e))

    -- what an operator asks of the sorts of its arguments, and that it makes a Bool
    asks : (o : Operator) (b : Bool) → tree_at ts p ≡ node (Theory o) (pick ts is) → operator_sort o (map (sort_at sorts) is) ≡ if_so b Truths → (b ≡ true) × (Truths ≡ sort_at sorts p)
    asks o b e says = if_so_true b Truths (sort_at sorts p) (sym says ∙ asked ds ts sorts o p is e own rest)

    order_in : (o : Operator) → tree_at ts p ≡ node (Theory o) (pick ts is) → operator_sort o (map (sort_at sorts) is) ≡ if_so (all_of Ints (map (sort_at sorts) is)) Truths
        → AreIn ds ts table (map Bound (order_atoms o is)) → All (Contains table) (Truth p ∷ map (bound_atom ts) (order_atoms o is))
    order_in o e says h =
        All-cons (Contains table) (Truth p) (map (bound_atom ts) (order_atoms o is)) (own_truth (asks o (all_of Ints (map (sort_at sorts) is)) e says).1) (orders_in ds ts table (order_atoms o is) h)

  pub part_numbered : (o : Operator) (p : ℕ) (is : List ℕ) → tree_at ts p ≡ node (Theory o) (pick ts is) → All (HasSort ds ts sorts) (p ∷ is) → HaveTruths ds ts table (p ∷ is)
      → All (Contains table) (map (atom_of ts) (compared (sort_of ds ts) (place_divisor ts is) o p is)) → All (Contains table) (atoms_of_part sorts ts o p is)
  part_numbered AtMost p is e s t h = order_in p is s t AtMost e refl h
  part_numbered Less p is e s t h = order_in p is s t Less e refl h
  part_numbered AtLeast p is e s t h = order_in p is s t AtLeast e refl h
  part_numbered Greater p is e s t h = order_in p is s t Greater e refl h
  part_numbered Equal p [] e s t h = All-nil (Contains table)
  part_numbered Equal p (i ∷ is) e s t h =
      let one = one_sort ds ts sorts Equal p i is refl e s in
      compared_in ds ts table (sort_at sorts i) Equal p (i ∷ is) (own_truth p (i ∷ is) s t one.bool) (λ int c more. equal_told ds ts table (sort_at sorts i) int (i ∷ is) c more one.same h)
  part_numbered Distinct p [] e s t h = All-nil (Contains table)
  part_numbered Distinct p (i ∷ is) e s t h =
      let one = one_sort ds ts sorts Distinct p i is refl e s in
      compared_in ds ts table (sort_at sorts i) Distinct p (i ∷ is) (own_truth p (i ∷ is) s t one.bool) (λ int c more. distinct_told ds ts table (sort_at sorts i) int (i ∷ is) c more one.same h)
  part_numbered Ite p (c ∷ i ∷ j ∷ []) e s t h =
      let own : HasSort ds ts sorts p = All-head (HasSort ds ts sorts) p (c ∷ i ∷ j ∷ []) s in
      let others : All (HasSort ds ts sorts) (c ∷ i ∷ j ∷ []) = All-tail (HasSort ds ts sorts) p (c ∷ i ∷ j ∷ []) s in
      let says = if_so_true (sort_eq (sort_at sorts c) Truths && sort_eq (sort_at sorts i) (sort_at sorts j)) (sort_at sorts i) (sort_at sorts p) (asked ds ts sorts Ite p (c ∷ i ∷ j ∷ []) e own others) in
      let bool_c : sort_at sorts c ≡ Truths = sort_is (sort_at sorts c) Truths (and_left (sort_eq (sort_at sorts c) Truths) (sort_eq (sort_at sorts i) (sort_at sorts j)) says.0) in
      let truth : Contains table (Truth c) =
      own_truth c (i ∷ j ∷ []) others (All-tail (λ k. tree_sort ds (tree_at ts k) ≡ Some Truths → Contains table (Truth k)) p (c ∷ i ∷ j ∷ []) t) (sym bool_c) in
      choice_in ds ts table (sort_at sorts p) p c i j own truth h
  part_numbered Divide p is e s t h =
      rows_in ds ts table p (placed_rows Divide (place_divisor ts is) p is) (silent_knows ds ts table p (placed_rows Divide (place_divisor ts is) p is) (quotient_silent (place_divisor ts is) p is)) h
  part_numbered Modulo p is e s t h =
      rows_in ds ts table p (placed_rows Modulo (place_divisor ts is) p is) (silent_knows ds ts table p (placed_rows Modulo (place_divisor ts is) p is) (remainder_silent (place_divisor ts is) p is)) h
  part_numbered Absolute p is e s t h =
      rows_in ds ts table p (placed_rows Absolute (place_divisor ts is) p is) (silent_knows ds ts table p (placed_rows Absolute (place_divisor ts is) p is) (absolute_silent (place_divisor ts is) p is)) h
  part_numbered Divisible p is e s t h =
      let says = asks p is s t Divisible (all_of Ints (map (sort_at sorts) is)) e refl in
      rows_in ds ts table p (placed_rows Divisible (place_divisor ts is) p is) (λ k d l b x. own_truth p is s t says.1) h
  part_numbered o p is e s t h = All-nil (Contains table)
