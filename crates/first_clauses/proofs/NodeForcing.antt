-- What the clauses of a node over the numbers of its Bools force.
use Rattle.std.proofs.Common.{◌≡◌, ℕ, suc, ◌<◌, Bool, true, false, ◌&&◌, List, [], ◌∷◌, ◌++◌, Option, Some, None, map, length, All, Contains, subst, sym, ap, ◌∙◌, arith, refl, nat_eq, eq-eqb, IsTrue}
use Rattle.std.specs.Prelude.{if◌then◌else◌}
use Rattle.std.proofs.lemmas.Bool.{eqb-true}
use Rattle.std.proofs.lemmas.List.Elements.{All-nil, All-cons, All-head, All-tail, All-weaker, All-contains, All-map, Contains-append_left, Contains-append_right, Contains-push}
use Rattle.smt_laws.proofs.Both.{and_left, and_right}
use Rattle.literals.specs.Signed.{Signed, opposite}
use Rattle.smt_meaning.specs.declared.values.Sort.{Sort}
use Rattle.smt_meaning.specs.declared.values.Sort.TheVariants.{Bool as Truths, Int as Ints, Free}
use Rattle.smt_meaning.specs.declared.terms.Operator.{Operator}
use Rattle.smt_meaning.specs.declared.terms.Operator.TheVariants.{True, False, Not, And, Or, Xor, Implies, Equal, Distinct, Ite, Add, Subtract, Multiply, AtMost, Less, AtLeast, Greater, Divide, Modulo, Absolute, Divisible}
use Rattle.smt_meaning.specs.declared.terms.Head.{Head}
use Rattle.smt_meaning.specs.declared.terms.Head.TheVariants.{Theory}
use Rattle.smt_meaning.specs.declared.clauses.Atom.{Atom}
use Rattle.smt_meaning.specs.declared.clauses.Atom.TheVariants.{Truth as TruthAtom}
use Rattle.smt_meaning.specs.Declaration.{Declaration}
use Rattle.smt_meaning.specs.Term.{Tree, Trees, node, tree_at, operate, truth_of}
use Rattle.smt_meaning.specs.Nodes.{pick}
use Rattle.smt_meaning.specs.Parts.{IsArgument, StandsBelow, AreInOrder}
use Rattle.smt_meaning.specs.TreeShape.{place_of}
use Rattle.smt_meaning.specs.Signature.{stands_with, tree_sort, tree_sorts, operator_sort, ite_sort, all_of, all_the_same, sort_eq, is_bool}
use Rattle.smt_meaning.specs.declared.values.Value.TheVariants.{Truth as TruthValue}
use Rattle.smt_meaning.specs.Forced.{Sign, RespectsNode, Forces, some_sign_true, IsNodeClause, IsClauseOf, has_node_clauses, are_two_bools, places_in, literals_of}
use Rattle.term_store.specs.Terms.{AreDifferent, tree_with}
use Rattle.term_store.proofs.PlaceLemmas.{place_of-is}
use Rattle.clause_form.specs.Signs.{negated}
use Rattle.clause_form.specs.NodeClauses.{node_clauses}
use Rattle.clause_form.specs.WideClauses.{wide_clauses}
use Rattle.clause_form.specs.NodeClausesLaws.{fits_node, NodeClausesForce}
use Rattle.clause_form.specs.Node.{signed, literals_of_node}
use Rattle.clause_form.specs.Renamed.{renamed, Apart, NodeClausesRenamed}
use Rattle.search_port.proofs.Forcing.{ComesBy, from_map, in_map, forces_renamed}
use Rattle.atom_form.specs.AtomTableNumbers.{IsAt}
use Rattle.check_atoms.specs.Atoms.{is_bool_at}
use Rattle.scope_stack.proofs.SortLemmas.{HasArguments, arguments_of, HasFirst, first_of, stands_so, if_so_is, the_some}
use Rattle.check_atoms.proofs.Sorting.{if_so_true, sort_is, all_of_one}
use Rattle.check_atoms.proofs.StackAtomsPlaces.{Picked, picked}
use Rattle.first_clauses.specs.PartClausesFirst.{IsForced, written_literal}
use Rattle.first_clauses.proofs.Numbering.{number_of, numbers_apart}

-- ---- the places of a term's arguments

pub different_trees : (trees : List Tree) → AreInOrder trees → AreDifferent trees
different_trees trees order j k l h e = let same : j ≡ k = order.different j k (omega arith) h e in omega arith

pub places_picked : (trees : List Tree) (is : List ℕ) → AreInOrder trees → All (λ i. i < length trees) is → places_in trees (pick trees is) ≡ is
places_picked trees [] order h = refl
places_picked trees (i ∷ is) order h =
    ap (λ j. j ∷ places_in trees (pick trees is)) (place_of-is (tree_at trees i) trees i (different_trees trees order) (All-head (λ j. j < length trees) i is h) refl)
    ∙ ap (λ js. i ∷ js) (places_picked trees is order (All-tail (λ j. j < length trees) i is h))

-- ---- operators with node clauses

two_more : (n : ℕ) → nat_eq (suc (suc n)) 1 ≡ true → ⊥
two_more n e = let same : suc (suc n) ≡ 1 = eqb-true (suc (suc n)) 1 e in omega arith

four_more : (n : ℕ) → nat_eq (suc (suc (suc (suc n)))) 3 ≡ true → ⊥
four_more n e = let same : suc (suc (suc (suc n))) ≡ 3 = eqb-true (suc (suc (suc (suc n)))) 3 e in omega arith

pub fits_of : (trees : List Tree) (ds : List Declaration) (o : Operator) (is : List ℕ) → stands_with o (length is) ≡ true → has_node_clauses ds o (pick trees is) ≡ true → fits_node o is ≡ true
fits_of trees ds True is s h = refl
fits_of trees ds False is s h = refl
fits_of trees ds Not [] s h = cc
fits_of trees ds Not (x ∷ []) s h = refl
fits_of trees ds Not (x ∷ y ∷ ys) s h = absurd (two_more (length ys) s)
fits_of trees ds And [] s h = cc
fits_of trees ds And (x ∷ xs) s h = refl
fits_of trees ds Or [] s h = cc
fits_of trees ds Or (x ∷ xs) s h = refl
fits_of trees ds Implies [] s h = cc
fits_of trees ds Implies (x ∷ []) s h = cc
fits_of trees ds Implies (x ∷ y ∷ ys) s h = refl
fits_of trees ds Ite [] s h = cc
fits_of trees ds Ite (c ∷ []) s h = cc
fits_of trees ds Ite (c ∷ x ∷ []) s h = cc
fits_of trees ds Ite (c ∷ x ∷ y ∷ []) s h = refl
fits_of trees ds Ite (c ∷ x ∷ y ∷ z ∷ zs) s h = absurd (four_more (length zs) s)
fits_of trees ds Xor [] s h = cc
fits_of trees ds Xor (x ∷ []) s h = cc
fits_of trees ds Xor (x ∷ y ∷ []) s h = refl
fits_of trees ds Xor (x ∷ y ∷ z ∷ zs) s h = cc
fits_of trees ds Equal [] s h = cc
fits_of trees ds Equal (x ∷ []) s h = cc
fits_of trees ds Equal (x ∷ y ∷ []) s h = refl
fits_of trees ds Equal (x ∷ y ∷ z ∷ zs) s h = cc
fits_of trees ds Distinct [] s h = cc
fits_of trees ds Distinct (x ∷ []) s h = cc
fits_of trees ds Distinct (x ∷ y ∷ []) s h = refl
fits_of trees ds Distinct (x ∷ y ∷ z ∷ zs) s h = cc
fits_of trees ds Add is s h = cc
fits_of trees ds Subtract is s h = cc
fits_of trees ds Multiply is s h = cc
fits_of trees ds AtMost is s h = cc
fits_of trees ds Less is s h = cc
fits_of trees ds AtLeast is s h = cc
fits_of trees ds Greater is s h = cc
fits_of trees ds Divide is s h = cc
fits_of trees ds Modulo is s h = cc
fits_of trees ds Absolute is s h = cc
fits_of trees ds Divisible is s h = cc

pub head_of : (h k : Head) (ts us : Trees) → node h ts ≡ node k us → h ≡ k
head_of h k ts us e = cc

pub arguments_same : (h k : Head) (ts us : Trees) → node h ts ≡ node k us → ts ≡ us
arguments_same h k ts us e = cc

in_literals : (o : Operator) (n : ℕ) (xs : List ℕ) (ss : List Sign) → Contains (node_clauses o n xs ++ wide_clauses o n xs) ss → Contains (literals_of_node o n xs) (map signed ss)
unfolding literals_of_node
in_literals o n xs ss h = in_map (map signed) (node_clauses o n xs ++ wide_clauses o n xs) ss h

-- ---- a clause of a node isn't empty

abbrev at_place : ℕ → Bool → ℕ → Bool
at_place p b q = if nat_eq p q then b else false

false_at : (p i : ℕ) (b v : Bool) → nat_eq p i ≡ v → (p ≡ i → ⊥) → at_place p b i ≡ false
false_at p i b true e h = absurd (h (eqb-true p i e))
false_at p i b false e h = ap (λ w. if w then b else false) e

false_elsewhere : (p : ℕ) (b : Bool) (is : List ℕ) → (Contains is p → ⊥) → map (λ i. TruthValue (at_place p b i)) is ≡ map (λ i. TruthValue false) is
false_elsewhere p b [] h = refl
false_elsewhere p b (i ∷ is) h =
    let other : p ≡ i → ⊥ = λ e. h (subst (Contains (i ∷ is)) (sym e) (Contains-append_left (i ∷ []) is i (Contains-push [] i))) in
    ap (λ v. TruthValue v ∷ map (λ j. TruthValue (at_place p b j)) is) (false_at p i b (nat_eq p i) refl other)
    ∙ ap (λ vs. TruthValue false ∷ vs) (false_elsewhere p b is (λ c. h (Contains-append_right (i ∷ []) is p c)))

pub some_sign : (o : Operator) (p : ℕ) (is : List ℕ) (ss : List Sign) → (Contains is p → ⊥) → IsNodeClause o p is ss → ss ≡ [] → ⊥
some_sign o p is ss h c e =
    let b : Bool = truth_of (operate o (map (λ i. TruthValue false) is)) in
    let here : at_place p b p ≡ b = ap (λ w. if w then b else false) (eq-eqb p p refl) in
    let respects : RespectsNode (at_place p b) o p is = here ∙ ap (λ vs. truth_of (operate o vs)) (sym (false_elsewhere p b is h)) in
    let true_there : IsTrue (some_sign_true (at_place p b) []) = subst (λ us. IsTrue (some_sign_true (at_place p b) us)) e (c.true_of (at_place p b) respects) in
    cc

-- ---- the sorts of a term with node clauses

stands_if : (b : Bool) (x : Option Sort) (r : Sort) → (if b then x else None) ≡ Some r → b ≡ true
stands_if true x r h = refl
stands_if false x r h = absurd cc

pub is_bool_sort : (r : Sort) → is_bool (Some r) ≡ true → r ≡ Truths
is_bool_sort Truths h = refl
is_bool_sort Ints h = absurd cc
is_bool_sort (Free n) h = absurd cc

three_truths : (c a b : Sort) → c ≡ Truths → a ≡ Truths → b ≡ Truths → all_of Truths (c ∷ a ∷ b ∷ []) ≡ true
three_truths c a b p q r =
    subst (λ x. all_of Truths (x ∷ a ∷ b ∷ []) ≡ true) (sym p)
    (subst (λ y. all_of Truths (Truths ∷ y ∷ b ∷ []) ≡ true) (sym q) (subst (λ z. all_of Truths (Truths ∷ Truths ∷ z ∷ []) ≡ true) (sym r) refl))

ite_all : (ss : List Sort) (r : Sort) → ite_sort ss ≡ Some r → r ≡ Truths → all_of Truths ss ≡ true
ite_all [] r h e = absurd cc
ite_all (c ∷ []) r h e = absurd cc
ite_all (c ∷ a ∷ []) r h e = absurd cc
ite_all (c ∷ a ∷ b ∷ []) r h e =
    let both : (sort_eq c Truths && sort_eq a b) ≡ true = if_so_true (sort_eq c Truths && sort_eq a b) a r h in
    let branch : a ≡ Truths = if_so_is (sort_eq c Truths && sort_eq a b) a r h ∙ e in
    three_truths c a b (sort_is c Truths (and_left (sort_eq c Truths) (sort_eq a b) both)) branch (sym (sort_is a b (and_right (sort_eq c Truths) (sort_eq a b) both)) ∙ branch)
ite_all (c ∷ a ∷ b ∷ d ∷ ss) r h e = absurd cc

-- it is a Bool
made_bool : (ds : List Declaration) (o : Operator) (us : Trees) (ss : List Sort) (r : Sort) → operator_sort o ss ≡ Some r → tree_sort ds (node (Theory o) us) ≡ Some r → has_node_clauses ds o us ≡ true → r ≡ Truths
made_bool ds True us ss r h t e = sym (the_some Truths r h)
made_bool ds False us ss r h t e = sym (the_some Truths r h)
made_bool ds Not us ss r h t e = sym (if_so_is (all_of Truths ss) Truths r h)
made_bool ds And us ss r h t e = sym (if_so_is (all_of Truths ss) Truths r h)
made_bool ds Or us ss r h t e = sym (if_so_is (all_of Truths ss) Truths r h)
made_bool ds Xor us ss r h t e = sym (if_so_is (all_of Truths ss) Truths r h)
made_bool ds Implies us ss r h t e = sym (if_so_is (all_of Truths ss) Truths r h)
made_bool ds Equal us ss r h t e = sym (if_so_is (all_the_same ss) Truths r h)
made_bool ds Distinct us ss r h t e = sym (if_so_is (all_the_same ss) Truths r h)
made_bool ds Ite us ss r h t e = is_bool_sort r (sym (ap is_bool t) ∙ e)
made_bool ds Add us ss r h t e = absurd cc
made_bool ds Subtract us ss r h t e = absurd cc
made_bool ds Multiply us ss r h t e = absurd cc
made_bool ds AtMost us ss r h t e = absurd cc
made_bool ds Less us ss r h t e = absurd cc
made_bool ds AtLeast us ss r h t e = absurd cc
made_bool ds Greater us ss r h t e = absurd cc
made_bool ds Divide us ss r h t e = absurd cc
made_bool ds Modulo us ss r h t e = absurd cc
made_bool ds Absolute us ss r h t e = absurd cc
made_bool ds Divisible us ss r h t e = absurd cc

no_places : (is : List ℕ) → nat_eq (length is) 0 ≡ true → is ≡ []
no_places [] h = refl
no_places (i ∷ is) h = let e : suc (length is) ≡ 0 = eqb-true (suc (length is)) 0 h in absurd (omega arith)

module _ (ds : List Declaration) (trees : List Tree) where
  all_bools : (is : List ℕ) (ss : List Sort) → tree_sorts ds (pick trees is) ≡ Some ss → all_of Truths ss ≡ true → All (λ i. is_bool_at ds trees i ≡ true) is
  all_bools is ss e a =
      All-weaker (λ i. tree_sort ds (tree_at trees i) ≡ Some Truths) (λ i. is_bool_at ds trees i ≡ true) (λ i k. ap is_bool k) is (all_of_one ds trees Truths is ss e a)

  two_bools : (is : List ℕ) → are_two_bools ds (pick trees is) ≡ true → All (λ i. is_bool_at ds trees i ≡ true) is
  two_bools [] h = absurd cc
  two_bools (i ∷ []) h = absurd cc
  two_bools (i ∷ j ∷ []) h =
      All-cons (λ k. is_bool_at ds trees k ≡ true) i (j ∷ []) (and_left (is_bool_at ds trees i) (is_bool_at ds trees j) h)
      (All-cons (λ k. is_bool_at ds trees k ≡ true) j [] (and_right (is_bool_at ds trees i) (is_bool_at ds trees j) h) (All-nil (λ k. is_bool_at ds trees k ≡ true)))
  two_bools (i ∷ j ∷ k ∷ is) h = absurd cc

  none_bools : (is : List ℕ) → nat_eq (length is) 0 ≡ true → All (λ i. is_bool_at ds trees i ≡ true) is
  none_bools is h = subst (All (λ i. is_bool_at ds trees i ≡ true)) (sym (no_places is h)) (All-nil (λ i. is_bool_at ds trees i ≡ true))

  -- and so are its arguments
  bools_of : (o : Operator) (is : List ℕ) (ss : List Sort) (r : Sort) → tree_sorts ds (pick trees is) ≡ Some ss → operator_sort o ss ≡ Some r → stands_with o (length is) ≡ true
      → tree_sort ds (tree_with trees (Theory o) is) ≡ Some r → has_node_clauses ds o (pick trees is) ≡ true → All (λ i. is_bool_at ds trees i ≡ true) is
  bools_of True is ss r e h s t b = none_bools is s
  bools_of False is ss r e h s t b = none_bools is s
  bools_of Not is ss r e h s t b = all_bools is ss e (if_so_true (all_of Truths ss) Truths r h)
  bools_of And is ss r e h s t b = all_bools is ss e (if_so_true (all_of Truths ss) Truths r h)
  bools_of Or is ss r e h s t b = all_bools is ss e (if_so_true (all_of Truths ss) Truths r h)
  bools_of Xor is ss r e h s t b = all_bools is ss e (if_so_true (all_of Truths ss) Truths r h)
  bools_of Implies is ss r e h s t b = all_bools is ss e (if_so_true (all_of Truths ss) Truths r h)
  bools_of Equal is ss r e h s t b = two_bools is b
  bools_of Distinct is ss r e h s t b = two_bools is b
  bools_of Ite is ss r e h s t b = all_bools is ss e (ite_all ss r h (is_bool_sort r (sym (ap is_bool t) ∙ b)))
  bools_of Add is ss r e h s t b = absurd cc
  bools_of Subtract is ss r e h s t b = absurd cc
  bools_of Multiply is ss r e h s t b = absurd cc
  bools_of AtMost is ss r e h s t b = absurd cc
  bools_of Less is ss r e h s t b = absurd cc
  bools_of AtLeast is ss r e h s t b = absurd cc
  bools_of Greater is ss r e h s t b = absurd cc
  bools_of Divide is ss r e h s t b = absurd cc
  bools_of Modulo is ss r e h s t b = absurd cc
  bools_of Absolute is ss r e h s t b = absurd cc
  bools_of Divisible is ss r e h s t b = absurd cc

  sorts_count : (is : List ℕ) (ss : List Sort) → tree_sorts ds (pick trees is) ≡ Some ss → length ss ≡ length is
  sorts_count [] ss e = let same : [] ≡ ss = cc in sym (ap length same)
  sorts_count (i ∷ is) ss e =
      let f : HasFirst ds (tree_at trees i) (pick trees is) ss = first_of ds (tree_at trees i) (pick trees is) ss e in
      ap length f.are ∙ ap suc (sorts_count is f.rest f.later)

  -- what is known of a term with node clauses
  pub record IsBoolNode (o : Operator) (is : List ℕ) : Type 0 where
    pub stands : stands_with o (length is) ≡ true
    pub bool : is_bool (tree_sort ds (tree_with trees (Theory o) is)) ≡ true
    pub bools : All (λ i. is_bool_at ds trees i ≡ true) is

  pub is_node : (o : Operator) (is : List ℕ) (r : Sort) → tree_sort ds (tree_with trees (Theory o) is) ≡ Some r → has_node_clauses ds o (pick trees is) ≡ true → IsBoolNode o is
  is_node o is r t b =
      let args : HasArguments ds (Theory o) (pick trees is) r = arguments_of ds (Theory o) (pick trees is) r t in
      let made : operator_sort o args.sorts ≡ Some r = stands_so (stands_with o (length args.sorts)) (operator_sort o args.sorts) r args.made in
      let stands : stands_with o (length is) ≡ true = sym (ap (stands_with o) (sorts_count is args.sorts args.are)) ∙ stands_if (stands_with o (length args.sorts)) (operator_sort o args.sorts) r args.made in
      record {
        stands = stands;
        bool = ap is_bool (t ∙ ap Some (made_bool ds o (pick trees is) args.sorts r made t b));
        bools = bools_of o is args.sorts r args.are made stands t b;
      }

-- ---- a term and its arguments by their places

module _ (trees : List Tree) (order : AreInOrder trees) where
  pub arguments_at : (p : ℕ) (h : Head) (us : Trees) → p < length trees → tree_at trees p ≡ node h us → Picked trees us
  arguments_at p h us inside e =
      picked trees us (λ v k. (
      let b : StandsBelow trees p v = order.after_arguments p v inside (subst (IsArgument v) (sym e) k) in
      (b.0, b.2, b.3)
      ))

  -- a clause of a term, by its place and those of its arguments
  pub record HasClauseAt (ds : List Declaration) (o : Operator) (p : ℕ) (is : List ℕ) (ss : List Sign) : Type 0 where
    pub has : has_node_clauses ds o (pick trees is) ≡ true
    pub clause : IsNodeClause o p is ss

  pub clause_at : (ds : List Declaration) (p : ℕ) (o : Operator) (us : Trees) (is : List ℕ) (ss : List Sign) → p < length trees → All (λ i. i < length trees) is → tree_at trees p ≡ node (Theory o) us
      → tree_at trees p ≡ tree_with trees (Theory o) is → IsClauseOf trees ds o us ss → HasClauseAt ds o p is ss
  clause_at ds p o us is ss here inside e tree c =
      let same : us ≡ pick trees is = arguments_same (Theory o) (Theory o) us (pick trees is) (sym e ∙ tree) in
      let clause : IsClauseOf trees ds o (pick trees is) ss = subst (λ vs. IsClauseOf trees ds o vs ss) same c in
      let top : place_of (node (Theory o) (pick trees is)) trees ≡ p = place_of-is (node (Theory o) (pick trees is)) trees p (different_trees trees order) here tree in
      record {
        has = clause.has;
        clause =
            subst (λ js. IsNodeClause o p js ss) (places_picked trees is order inside)
            (subst (λ q. IsNodeClause o q (places_in trees (pick trees is)) ss) top clause.clause);
      }

-- ---- the clauses of a node by numbers

module _ (table : List Atom) where
  -- the truth of the term at this place has its number
  abbrev pub HasNumber : ℕ → Type 0
  HasNumber p = IsAt table (number_of table p) (TruthAtom p)

  -- the literal over the number of the place
  abbrev pub numbered : Sign → Signed
  numbered l = record { atom = number_of table l.place; positive = l.positive }

  fused : (ss : List Sign) → map signed (map (renamed (number_of table)) ss) ≡ map numbered ss
  fused [] = refl
  fused (l ∷ ss) = ap (λ ls. numbered l ∷ ls) (fused ss)

  read_again : (ss : List Sign) → All (λ (l : Sign). HasNumber l.place) ss → map (written_literal table) (map numbered ss) ≡ literals_of ss
  read_again [] h = refl
  read_again (l ∷ ss) h =
      ap (λ a. record { atom = a; positive = l.positive } ∷ map (written_literal table) (map numbered ss)) ((All-head (λ (u : Sign). HasNumber u.place) l ss h).1 (TruthAtom 0))
      ∙ ap (λ ls. record { atom = TruthAtom l.place; positive = l.positive } ∷ ls) (read_again ss (All-tail (λ (u : Sign). HasNumber u.place) l ss h))

  all_apart : (n : ℕ) → Apart (number_of table) n
  all_apart n j k a b e = numbers_apart table j k e

  -- what holds of each clause over the numbers holds of those over the places, by numbers
  pub each_numbered : NodeClausesRenamed → (P : List Signed → Type 0) (count p : ℕ) (o : Operator) (is xs : List ℕ) → All (λ i. i < count) is → xs ≡ map (number_of table) is
      → All P (literals_of_node o (number_of table p) xs) → (d : List Signed) → Contains (map (map numbered) (node_clauses o p is)) d → P d
  each_numbered rename P count p o is xs h numbers kept d c =
      let n : ℕ = number_of table p in
      let all_is : node_clauses o n xs ++ wide_clauses o n xs ≡ map (map (renamed (number_of table))) (node_clauses o p is ++ wide_clauses o p is) =
      subst (λ ys. node_clauses o n ys ++ wide_clauses o n ys ≡ map (map (renamed (number_of table))) (node_clauses o p is ++ wide_clauses o p is)) (sym numbers)
      (rename (number_of table) count o p is (all_apart count) h) in
      let r : ComesBy (map numbered) (node_clauses o p is) d = from_map (map numbered) (node_clauses o p is) d c in
      let here : Contains (map (map (renamed (number_of table))) (node_clauses o p is ++ wide_clauses o p is)) (map (renamed (number_of table)) r.from) =
      in_map (map (renamed (number_of table))) (node_clauses o p is ++ wide_clauses o p is) r.from (Contains-append_left (node_clauses o p is) (wide_clauses o p is) r.from r.among) in
      let among : Contains (literals_of_node o n xs) (map signed (map (renamed (number_of table)) r.from)) =
      in_literals o n xs (map (renamed (number_of table)) r.from) (subst (λ cs. Contains cs (map (renamed (number_of table)) r.from)) (sym all_is) here) in
      let same : map signed (map (renamed (number_of table)) r.from) ≡ d = fused r.from ∙ r.is in
      subst P same (All-contains P (literals_of_node o n xs) (map signed (map (renamed (number_of table)) r.from)) kept among)

  -- they force each clause of the node
  pub forces_numbered : NodeClausesForce → (p : ℕ) (o : Operator) (is : List ℕ) (ss : List Sign) → fits_node o is ≡ true → (Contains is p → ⊥) → IsNodeClause o p is ss
      → Forces opposite (map (map numbered) (node_clauses o p is)) (map numbered ss)
  forces_numbered force p o is ss fits other c = forces_renamed numbered negated opposite (λ l. refl) (node_clauses o p is) ss (force o p is ss fits other c)

  pub is_forced : (known : List (List Signed)) (p : ℕ) (o : Operator) (is : List ℕ) (ss : List Sign) → (Contains is p → ⊥) → IsNodeClause o p is ss → HasNumber p → All HasNumber is
      → Forces opposite known (map numbered ss) → IsForced table known ss
  is_forced known p o is ss other c own numbers forced =
      let over : All (λ (l : Sign). HasNumber l.place) ss =
      All-weaker (λ (l : Sign). Contains (p ∷ is) l.place) (λ (l : Sign). HasNumber l.place) (λ l k. All-contains HasNumber (p ∷ is) l.place (All-cons HasNumber p is own numbers) k) ss c.over in
      record {
        literals = map numbered ss;
        within = All-map (λ (l : Signed). l.atom < length table) numbered ss (All-weaker (λ (l : Sign). HasNumber l.place) (λ (l : Sign). number_of table l.place < length table) (λ l k. k.0) ss over);
        reads = read_again ss over;
        some = some_sign o p is ss other c;
        forced = forced;
      }
