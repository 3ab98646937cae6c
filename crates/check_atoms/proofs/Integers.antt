-- The terms of the bounds of a part are Ints.
use Rattle.std.proofs.Common.{◌≡◌, ℕ, true, ◌&&◌, List, [], ◌∷◌, ◌++◌, Some, map, length, All, subst, sym, ap, ◌∙◌, refl}
use Rattle.std.specs.Prelude.{◌≢◌, Option, None, ℤ}
use Rattle.std.proofs.lemmas.List.Elements.{All-nil, All-cons, All-append, All-map, All-weaker}
use Rattle.smt_laws.proofs.Both.{and_right}
use Rattle.smt_meaning.specs.declared.values.Sort.{Sort}
use Rattle.smt_meaning.specs.declared.values.Sort.TheVariants.{Bool as Truths, Int as Ints, Free}
use Rattle.smt_meaning.specs.declared.terms.Operator.TheVariants.{Equal, Distinct, Ite, AtMost, Less, AtLeast, Greater, Divide, Modulo, Absolute, Divisible}
use Rattle.smt_meaning.specs.declared.terms.Operator.{Operator}
use Rattle.smt_meaning.specs.declared.terms.Head.{Head}
use Rattle.smt_meaning.specs.declared.terms.Head.TheVariants.{Theory}
use Rattle.smt_meaning.specs.Declaration.{Declaration}
use Rattle.smt_meaning.specs.Term.{Tree, node, none, tree_at}
use Rattle.smt_meaning.specs.Nodes.{pick}
use Rattle.smt_meaning.specs.Signature.{tree_sort, tree_sorts, operator_sort, ite_sort, if_so, all_of, all_the_same, sort_eq, stands_with}
use Rattle.scope_stack.proofs.SortLemmas.{HasArguments, arguments_of, HasFirst, first_of, stands_so, if_so_is}
use Rattle.check_atoms.proofs.Sorting.{sort_is, if_so_true, all_of_one}
use Rattle.bound_clauses.specs.declared.orders.Sense.TheVariants.{NotAbove}
use Rattle.bound_clauses.specs.Orders.{order, both_orders, order_atoms}
use Rattle.check_atoms.specs.declared.part.PartAtom.{PartAtom}
use Rattle.check_atoms.specs.declared.part.PartAtom.TheVariants.{Truth, Same, Bound, Limit}
use Rattle.check_atoms.specs.PartAtoms.{sort_of, by_sort, alone_by_sort, truth_by_sort, pair, alone, of_rows, compared, compared_by_head, of_part}
use Rattle.check_atoms.proofs.Rows.{HasTerms, limits_of, all_terms}
use Rattle.check_atoms.proofs.PartPlaces.{IsOver, orders_over, equal_all, two_all}

rest_is_empty : (xs : List Sort) → Some [] ≡ Some xs → xs ≡ []
rest_is_empty xs e = cc

module _ (ds : List Declaration) (ts : List Tree) where
  abbrev pub IsIntAt : ℕ → Type 0
  IsIntAt i = tree_sort ds (tree_at ts i) ≡ Some Ints

  abbrev pub IsIntBound : PartAtom → Type 0
  IsIntBound (Truth p) = Unit {0}
  IsIntBound (Same i j) = Unit {0}
  IsIntBound (Bound o) = IsIntAt o.lesser × IsIntAt o.greater
  IsIntBound (Limit l) = HasTerms IsIntAt l

  over_int : (x : PartAtom) → IsOver IsIntAt x → IsIntBound x
  over_int (Truth p) h = tt
  over_int (Same i j) h = tt
  over_int (Bound o) h = h
  over_int (Limit l) h = h

  pair_int : (r : Option Sort) (i j : ℕ) → sort_of ds ts i ≡ r → (r ≡ Some Ints → IsIntAt j) → All IsIntBound (by_sort r i j)
  pair_int None i j e g = All-cons IsIntBound (Same i j) [] tt (All-nil IsIntBound)
  pair_int (Some Truths) i j e g = All-nil IsIntBound
  pair_int (Some Ints) i j e g =
      All-cons IsIntBound (Same i j) (map Bound (both_orders i j)) tt
      (All-cons IsIntBound (Bound (order NotAbove i j)) (Bound (order NotAbove j i) ∷ []) (e, g refl) (All-cons IsIntBound (Bound (order NotAbove j i)) [] (g refl, e) (All-nil IsIntBound)))
  pair_int (Some (Free n)) i j e g = All-cons IsIntBound (Same i j) [] tt (All-nil IsIntBound)

  alone_int : (r : Option Sort) (i j : ℕ) → sort_of ds ts i ≡ r → (r ≡ Some Ints → IsIntAt j) → All IsIntBound (alone_by_sort r i j)
  alone_int None i j e g = pair_int None i j e g
  alone_int (Some Truths) i j e g = All-nil IsIntBound
  alone_int (Some Ints) i j e g = pair_int (Some Ints) i j e g
  alone_int (Some (Free n)) i j e g = All-nil IsIntBound

  -- of two terms of one sort
  one_alone : (r : Sort) (i j : ℕ) → sort_of ds ts i ≡ Some r → sort_of ds ts j ≡ Some r → All IsIntBound (alone (sort_of ds ts) i j)
  one_alone r i j h g = alone_int (sort_of ds ts i) i j refl (λ e. g ∙ sym h ∙ e)

  one_pair : (r : Sort) (i j : ℕ) → sort_of ds ts i ≡ Some r → sort_of ds ts j ≡ Some r → All IsIntBound (pair (sort_of ds ts) i j)
  one_pair r i j h g = pair_int (sort_of ds ts i) i j refl (λ e. g ∙ sym h ∙ e)

  truth_int : (r : Option Sort) (p : ℕ) → All IsIntBound (truth_by_sort r p)
  truth_int None p = All-nil IsIntBound
  truth_int (Some Truths) p = All-cons IsIntBound (Truth p) [] tt (All-nil IsIntBound)
  truth_int (Some Ints) p = All-nil IsIntBound
  truth_int (Some (Free n)) p = All-nil IsIntBound

  pub record HaveOneSort (is : List ℕ) : Type 0 where
    pub sort : Sort
    pub each : All (λ i. sort_of ds ts i ≡ Some sort) is

  one_sort : (is : List ℕ) (ss : List Sort) → tree_sorts ds (pick ts is) ≡ Some ss → all_the_same ss ≡ true → HaveOneSort is
  one_sort [] ss e a = record { sort = Truths; each = All-nil (λ i. sort_of ds ts i ≡ Some Truths) }
  one_sort (i ∷ is) ss e a =
      let f : HasFirst ds (tree_at ts i) (pick ts is) ss = first_of ds (tree_at ts i) (pick ts is) ss e in
      let b : all_of f.first f.rest ≡ true = subst (λ xs. all_the_same xs ≡ true) f.are a in
      record { sort = f.first; each = All-cons (λ j. sort_of ds ts j ≡ Some f.first) i is f.here (all_of_one ds ts f.first is f.rest f.later b) }

  branches_int : (p c i j : ℕ) (ss : List Sort) (s : Sort) → sort_of ds ts p ≡ Some s → tree_sorts ds (pick ts (c ∷ i ∷ j ∷ [])) ≡ Some ss → ite_sort ss ≡ Some s
      → All IsIntBound (alone (sort_of ds ts) p i ++ alone (sort_of ds ts) p j)
  branches_int p c i j ss s h e made =
      let f : HasFirst ds (tree_at ts c) (pick ts (i ∷ j ∷ [])) ss = first_of ds (tree_at ts c) (pick ts (i ∷ j ∷ [])) ss e in
      let g : HasFirst ds (tree_at ts i) (pick ts (j ∷ [])) f.rest = first_of ds (tree_at ts i) (pick ts (j ∷ [])) f.rest f.later in
      let k : HasFirst ds (tree_at ts j) none g.rest = first_of ds (tree_at ts j) none g.rest g.later in
      let end : k.rest ≡ [] = rest_is_empty k.rest k.later in
      let whole : ss ≡ f.first ∷ g.first ∷ k.first ∷ [] = f.are ∙ ap (λ xs. f.first ∷ xs) (g.are ∙ ap (λ xs. g.first ∷ xs) (k.are ∙ ap (λ xs. k.first ∷ xs) end)) in
      let m : if_so (sort_eq f.first Truths && sort_eq g.first k.first) g.first ≡ Some s = subst (λ xs. ite_sort xs ≡ Some s) whole made in
      let left : g.first ≡ s = if_so_is (sort_eq f.first Truths && sort_eq g.first k.first) g.first s m in
      let right : g.first ≡ k.first =
      sort_is g.first k.first (and_right (sort_eq f.first Truths) (sort_eq g.first k.first) (if_so_true (sort_eq f.first Truths && sort_eq g.first k.first) g.first s m)) in
      All-append IsIntBound (alone (sort_of ds ts) p i) (alone (sort_of ds ts) p j) (one_alone s p i h (g.here ∙ ap Some left)) (one_alone s p j h (k.here ∙ ap Some (sym right ∙ left)))

  orders_int : (o : Operator) (is : List ℕ) (ss : List Sort) → tree_sorts ds (pick ts is) ≡ Some ss → all_of Ints ss ≡ true → All IsIntBound (map Bound (order_atoms o is))
  orders_int o is ss e a = All-weaker (IsOver IsIntAt) IsIntBound over_int (map Bound (order_atoms o is)) (orders_over IsIntAt o is (all_of_one ds ts Ints is ss e a))

  rows_int : (n : ℤ) (o : Operator) (p : ℕ) (is : List ℕ) (ss : List Sort) → (o ≢ Divisible → IsIntAt p) → tree_sorts ds (pick ts is) ≡ Some ss → all_of Ints ss ≡ true → All IsIntBound (of_rows n o p is)
  rows_int n o p is ss h e a = All-map IsIntBound Limit (limits_of n o p is) (all_terms IsIntAt n o p is h (all_of_one ds ts Ints is ss e a))

  -- of a division that is an Int
  int_rows : (n : ℤ) (o : Operator) (p : ℕ) (is : List ℕ) (ss : List Sort) (s : Sort) → sort_of ds ts p ≡ Some s → tree_sorts ds (pick ts is) ≡ Some ss → if_so (all_of Ints ss) Ints ≡ Some s
      → All IsIntBound (of_rows n o p is)
  int_rows n o p is ss s h e made = rows_int n o p is ss (λ _. h ∙ ap Some (sym (if_so_is (all_of Ints ss) Ints s made))) e (if_so_true (all_of Ints ss) Ints s made)

  compared_int : (n : ℤ) (o : Operator) (p : ℕ) (is : List ℕ) (ss : List Sort) (s : Sort) → sort_of ds ts p ≡ Some s → tree_sorts ds (pick ts is) ≡ Some ss → operator_sort o ss ≡ Some s
      → All IsIntBound (compared (sort_of ds ts) n o p is)
  compared_int n Equal p is ss s h e made =
      let one = one_sort is ss e (if_so_true (all_the_same ss) Truths s made) in
      equal_all (λ i. sort_of ds ts i ≡ Some one.sort) IsIntBound (sort_of ds ts) (λ i j. one_pair one.sort i j) (λ i j. one_alone one.sort i j) is one.each
  compared_int n Distinct p is ss s h e made =
      let one = one_sort is ss e (if_so_true (all_the_same ss) Truths s made) in
      two_all (λ i. sort_of ds ts i ≡ Some one.sort) IsIntBound (sort_of ds ts) (λ i j. one_pair one.sort i j) (λ i j. one_alone one.sort i j) is one.each
  compared_int n Ite p (c ∷ i ∷ j ∷ []) ss s h e made = branches_int p c i j ss s h e made
  compared_int n Ite p is ss s h e made = All-nil IsIntBound
  compared_int n AtMost p is ss s h e made = orders_int AtMost is ss e (if_so_true (all_of Ints ss) Truths s made)
  compared_int n Less p is ss s h e made = orders_int Less is ss e (if_so_true (all_of Ints ss) Truths s made)
  compared_int n AtLeast p is ss s h e made = orders_int AtLeast is ss e (if_so_true (all_of Ints ss) Truths s made)
  compared_int n Greater p is ss s h e made = orders_int Greater is ss e (if_so_true (all_of Ints ss) Truths s made)
  compared_int n Divide p is ss s h e made = int_rows n Divide p is ss s h e made
  compared_int n Modulo p is ss s h e made = int_rows n Modulo p is ss s h e made
  compared_int n Absolute p is ss s h e made = int_rows n Absolute p is ss s h e made
  compared_int n Divisible p is ss s h e made = rows_int n Divisible p is ss (λ no_divisibility. absurd (no_divisibility refl)) e (if_so_true (all_of Ints ss) Truths s made)
  compared_int n o p is ss s h e made = All-nil IsIntBound

  head_int : (n : ℤ) (h : Head) (p : ℕ) (is : List ℕ) (s : Sort) → sort_of ds ts p ≡ Some s → tree_sort ds (node h (pick ts is)) ≡ Some s → All IsIntBound (compared_by_head (sort_of ds ts) n h p is)
  head_int n (Theory o) p is s h e =
      let args : HasArguments ds (Theory o) (pick ts is) s = arguments_of ds (Theory o) (pick ts is) s e in
      compared_int n o p is args.sorts s h args.are (stands_so (stands_with o (length args.sorts)) (operator_sort o args.sorts) s args.made)
  head_int n k p is s h e = All-nil IsIntBound

  pub part_int : (n : ℤ) (p : ℕ) (h : Head) (is : List ℕ) (s : Sort) → sort_of ds ts p ≡ Some s → tree_at ts p ≡ node h (pick ts is) → All IsIntBound (of_part (sort_of ds ts) n p h is)
  part_int n p h is s e tree =
      All-append IsIntBound (truth_by_sort (sort_of ds ts p) p) (compared_by_head (sort_of ds ts) n h p is) (truth_int (sort_of ds ts p) p)
      (head_int n h p is s e (sym (ap (tree_sort ds) tree) ∙ e))
