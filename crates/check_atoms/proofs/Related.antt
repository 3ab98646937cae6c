-- The atoms of a part, beside those that the definition of a stack's atoms has for it.
use Rattle.std.proofs.Common.{◌≡◌, ℕ, List, [], ◌∷◌, ◌++◌, map, All, subst, sym, ap, ◌∙◌, refl, append-nil}
use Rattle.std.specs.Prelude.{IsTrue}
use Rattle.std.proofs.lemmas.List.{map-append}
use Rattle.std.proofs.lemmas.List.Elements.{All-head, All-tail}
use Rattle.smt_meaning.specs.declared.terms.Operator.TheVariants.{Equal, Distinct, Ite, AtMost, Less, AtLeast, Greater, Divide, Modulo, Absolute, Divisible}
use Rattle.smt_meaning.specs.declared.terms.Operator.{Operator}
use Rattle.smt_meaning.specs.declared.terms.Head.{Head}
use Rattle.smt_meaning.specs.declared.terms.Head.TheVariants.{Theory}
use Rattle.smt_meaning.specs.declared.clauses.Atom.{Atom}
use Rattle.smt_meaning.specs.Declaration.{Declaration}
use Rattle.smt_meaning.specs.Term.{Tree, node, tree_at}
use Rattle.smt_meaning.specs.Nodes.{pick}
use Rattle.smt_meaning.specs.Atoms.{pair_atoms, of_neighbours_from, of_first_with, of_pairs, division_atoms, comparison_atoms, truth_atom}
use Rattle.smt_laws.specs.Rows.{place_divisor}
use Rattle.bound_clauses.specs.declared.orders.Order.{Order}
use Rattle.bound_clauses.specs.Orders.{order_atoms, bound_atom}
use Rattle.bound_clauses.specs.Laws.{OrdersAreComparisons, orders}
use Rattle.pair_bounds.specs.Rows.{RowsAreAtoms}
use Rattle.check_atoms.specs.declared.part.PartAtom.{PartAtom}
use Rattle.check_atoms.specs.declared.part.PartAtom.TheVariants.{Bound}
use Rattle.check_atoms.specs.PartAtoms.{atom_of, sort_of, truth_by_sort, pair, alone, neighbours_from, first_with, each_two, of_rows, compared, compared_by_head, of_part}
use Rattle.check_atoms.proofs.Rows.{rows_are}

module _ (ts : List Tree) (ds : List Declaration) (R : List Atom → List Atom → Type 0) (P : ℕ → Type 0) where
  -- a relation of lists that is kept where both go on
  pub record IsKept : Type 0 where
    pub same : (xs : List Atom) → R xs xs
    pub append : (xs ys us vs : List Atom) → R xs us → R ys vs → R (xs ++ ys) (us ++ vs)
    pub pairs : (i j : ℕ) → P i → P j → R (map (atom_of ts) (pair (sort_of ds ts) i j)) (pair_atoms ts ds (tree_at ts i) (tree_at ts j))
    pub single : (i j : ℕ) → P i → P j → R (map (atom_of ts) (alone (sort_of ds ts) i j)) (pair_atoms ts ds (tree_at ts i) (tree_at ts j))

  module _ (k : IsKept) where
    both : (xs ys : List PartAtom) (us vs : List Atom) → R (map (atom_of ts) xs) us → R (map (atom_of ts) ys) vs → R (map (atom_of ts) (xs ++ ys)) (us ++ vs)
    both xs ys us vs a b = subst (λ zs. R zs (us ++ vs)) (sym (map-append (atom_of ts) xs ys)) (k.append (map (atom_of ts) xs) (map (atom_of ts) ys) us vs a b)

    neighbours_related : (i : ℕ) (js : List ℕ) → P i → All P js → R (map (atom_of ts) (neighbours_from (sort_of ds ts) i js)) (of_neighbours_from (pair_atoms ts ds) (tree_at ts i) (pick ts js))
    neighbours_related i [] h g = k.same []
    neighbours_related i (j ∷ js) h g =
        both (pair (sort_of ds ts) i j) (neighbours_from (sort_of ds ts) j js) (pair_atoms ts ds (tree_at ts i) (tree_at ts j)) (of_neighbours_from (pair_atoms ts ds) (tree_at ts j) (pick ts js))
        (k.pairs i j h (All-head P j js g)) (neighbours_related j js (All-head P j js g) (All-tail P j js g))

    first_related : (i : ℕ) (js : List ℕ) → P i → All P js → R (map (atom_of ts) (first_with (sort_of ds ts) i js)) (of_first_with (pair_atoms ts ds) (tree_at ts i) (pick ts js))
    first_related i [] h g = k.same []
    first_related i (j ∷ js) h g =
        both (pair (sort_of ds ts) i j) (first_with (sort_of ds ts) i js) (pair_atoms ts ds (tree_at ts i) (tree_at ts j)) (of_first_with (pair_atoms ts ds) (tree_at ts i) (pick ts js))
        (k.pairs i j h (All-head P j js g)) (first_related i js h (All-tail P j js g))

    two_related : (is : List ℕ) → All P is → R (map (atom_of ts) (each_two (sort_of ds ts) is)) (of_pairs (pair_atoms ts ds) (pick ts is))
    two_related [] g = k.same []
    two_related (i ∷ is) g =
        both (first_with (sort_of ds ts) i is) (each_two (sort_of ds ts) is) (of_first_with (pair_atoms ts ds) (tree_at ts i) (pick ts is)) (of_pairs (pair_atoms ts ds) (pick ts is))
        (first_related i is (All-head P i is g) (All-tail P i is g)) (two_related is (All-tail P i is g))

    branches_related : (p c i j : ℕ) → P p → P i → P j → tree_at ts p ≡ node (Theory Ite) (pick ts (c ∷ i ∷ j ∷ []))
        → R (map (atom_of ts) (alone (sort_of ds ts) p i ++ alone (sort_of ds ts) p j)) (comparison_atoms ts ds (Theory Ite) (pick ts (c ∷ i ∷ j ∷ [])))
    branches_related p c i j h a b e =
        subst (λ t. R (map (atom_of ts) (alone (sort_of ds ts) p i ++ alone (sort_of ds ts) p j)) (pair_atoms ts ds t (tree_at ts i) ++ pair_atoms ts ds t (tree_at ts j))) e
        (both (alone (sort_of ds ts) p i) (alone (sort_of ds ts) p j) (pair_atoms ts ds (tree_at ts p) (tree_at ts i)) (pair_atoms ts ds (tree_at ts p) (tree_at ts j)) (k.single p i h a) (k.single p j h b))

    -- of two terms alone
    single_related : (i j : ℕ) → P i → P j → R (map (atom_of ts) (alone (sort_of ds ts) i j)) (pair_atoms ts ds (tree_at ts i) (tree_at ts j) ++ [])
    single_related i j h g = subst (R (map (atom_of ts) (alone (sort_of ds ts) i j))) (sym (append-nil (pair_atoms ts ds (tree_at ts i) (tree_at ts j)))) (k.single i j h g)

    -- and with nothing after them, as `distinct` has them
    two_single : (i j : ℕ) → P i → P j → R (map (atom_of ts) (alone (sort_of ds ts) i j)) (of_pairs (pair_atoms ts ds) (pick ts (i ∷ j ∷ [])))
    two_single i j h g = subst (R (map (atom_of ts) (alone (sort_of ds ts) i j))) (sym (append-nil (pair_atoms ts ds (tree_at ts i) (tree_at ts j) ++ []))) (single_related i j h g)

    map_bounds : (os : List Order) → map (atom_of ts) (map Bound os) ≡ map (bound_atom ts) os
    map_bounds [] = refl
    map_bounds (o ∷ os) = ap (λ xs. bound_atom ts o ∷ xs) (map_bounds os)

    orders_related : OrdersAreComparisons → (o : Operator) (is : List ℕ) → IsTrue (orders o) → R (map (atom_of ts) (map Bound (order_atoms o is))) (comparison_atoms ts ds (Theory o) (pick ts is))
    orders_related law o is h =
        subst (λ xs. R xs (comparison_atoms ts ds (Theory o) (pick ts is))) (law ts ds o is h ∙ sym (map_bounds (order_atoms o is))) (k.same (comparison_atoms ts ds (Theory o) (pick ts is)))

    rows_related : RowsAreAtoms → (o : Operator) (p : ℕ) (is : List ℕ) → tree_at ts p ≡ node (Theory o) (pick ts is)
        → R (map (atom_of ts) (of_rows (place_divisor ts is) o p is)) (division_atoms ts (Theory o) (pick ts is))
    rows_related law o p is e = subst (λ xs. R xs (division_atoms ts (Theory o) (pick ts is))) (sym (rows_are ts law o p is e)) (k.same (division_atoms ts (Theory o) (pick ts is)))

    compared_related : OrdersAreComparisons → RowsAreAtoms → (o : Operator) (p : ℕ) (is : List ℕ) → P p → All P is → tree_at ts p ≡ node (Theory o) (pick ts is)
        → R (map (atom_of ts) (compared (sort_of ds ts) (place_divisor ts is) o p is)) (comparison_atoms ts ds (Theory o) (pick ts is))
    compared_related law rows Equal p [] h g e = k.same []
    compared_related law rows Equal p (i ∷ []) h g e = k.same []
    compared_related law rows Equal p (i ∷ j ∷ []) h g e = single_related i j (All-head P i (j ∷ []) g) (All-head P j [] (All-tail P i (j ∷ []) g))
    compared_related law rows Equal p (i ∷ j ∷ l ∷ is) h g e = neighbours_related i (j ∷ l ∷ is) (All-head P i (j ∷ l ∷ is) g) (All-tail P i (j ∷ l ∷ is) g)
    compared_related law rows Distinct p [] h g e = k.same []
    compared_related law rows Distinct p (i ∷ []) h g e = two_related (i ∷ []) g
    compared_related law rows Distinct p (i ∷ j ∷ []) h g e = two_single i j (All-head P i (j ∷ []) g) (All-head P j [] (All-tail P i (j ∷ []) g))
    compared_related law rows Distinct p (i ∷ j ∷ l ∷ is) h g e = two_related (i ∷ j ∷ l ∷ is) g
    compared_related law rows Ite p (c ∷ i ∷ j ∷ []) h g e =
        let r = All-tail P c (i ∷ j ∷ []) g in branches_related p c i j h (All-head P i (j ∷ []) r) (All-head P j [] (All-tail P i (j ∷ []) r)) e
    compared_related law rows Ite p [] h g e = k.same []
    compared_related law rows Ite p (c ∷ []) h g e = k.same []
    compared_related law rows Ite p (c ∷ i ∷ []) h g e = k.same []
    compared_related law rows Ite p (c ∷ i ∷ j ∷ l ∷ ls) h g e = k.same []
    compared_related law rows AtMost p is h g e = orders_related law AtMost is refl
    compared_related law rows Less p is h g e = orders_related law Less is refl
    compared_related law rows AtLeast p is h g e = orders_related law AtLeast is refl
    compared_related law rows Greater p is h g e = orders_related law Greater is refl
    compared_related law rows Divide p is h g e = rows_related rows Divide p is e
    compared_related law rows Modulo p is h g e = rows_related rows Modulo p is e
    compared_related law rows Absolute p is h g e = rows_related rows Absolute p is e
    compared_related law rows Divisible p is h g e = rows_related rows Divisible p is e
    compared_related law rows o p is h g e = k.same []

    pub head_related : OrdersAreComparisons → RowsAreAtoms → (h : Head) (p : ℕ) (is : List ℕ) → P p → All P is → tree_at ts p ≡ node h (pick ts is)
        → R (map (atom_of ts) (compared_by_head (sort_of ds ts) (place_divisor ts is) h p is)) (comparison_atoms ts ds h (pick ts is))
    head_related law rows (Theory o) p is h g e = compared_related law rows o p is h g e
    head_related law rows t p is h g e = k.same []

    pub part_related : OrdersAreComparisons → RowsAreAtoms → (h : Head) (p : ℕ) (is : List ℕ) → P p → All P is → tree_at ts p ≡ node h (pick ts is)
        → R (map (atom_of ts) (truth_by_sort (sort_of ds ts p) p)) (truth_atom ts ds (tree_at ts p))
        → R (map (atom_of ts) (of_part (sort_of ds ts) (place_divisor ts is) p h is)) (truth_atom ts ds (tree_at ts p) ++ comparison_atoms ts ds h (pick ts is))
    part_related law rows h p is m g e truth =
        both (truth_by_sort (sort_of ds ts p) p) (compared_by_head (sort_of ds ts) (place_divisor ts is) h p is) (truth_atom ts ds (tree_at ts p)) (comparison_atoms ts ds h (pick ts is)) truth (head_related law rows h p is m g e)
