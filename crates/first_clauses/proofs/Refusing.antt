-- Where the clauses of a part can't be put though its atoms have numbers, numbering its atoms would be refused.
use Rattle.std.proofs.Common.{◌≡◌, ◌⊎◌, inl, inr, ℕ, Bool, true, false, List, [], ◌∷◌, ◌++◌, length, map, All, Contains, refl, sym, subst}
use Rattle.std.specs.Prelude.{flat_map, IsTrue, Option, Some, nat_eq, if◌then◌else◌}
use Rattle.std.proofs.lemmas.List.Elements.{All-cons, All-nil, All-head, All-tail, All-append, All-contains, All-weaker, Contains-append_right}
use Rattle.smt_meaning.specs.declared.values.Sort.{Sort}
use Rattle.smt_meaning.specs.declared.values.Sort.TheVariants.{Bool as Truths, Int as Ints, Free}
use Rattle.smt_meaning.specs.declared.terms.Operator.{Operator}
use Rattle.smt_meaning.specs.declared.terms.Operator.TheVariants.{Equal, Distinct, Ite, AtMost, Less, AtLeast, Greater, Divide, Modulo, Absolute, Divisible}
use Rattle.smt_meaning.specs.declared.terms.Head.TheVariants.{Theory}
use Rattle.smt_meaning.specs.declared.clauses.Atom.{Atom}
use Rattle.smt_meaning.specs.Declaration.{Declaration}
use Rattle.smt_meaning.specs.Term.{Tree, node, tree_at}
use Rattle.smt_meaning.specs.declared.clauses.Atom.TheVariants.{Truth}
use Rattle.smt_meaning.specs.Signature.{tree_sort}
use Rattle.smt_meaning.specs.Stack.{signature_of}
use Rattle.smt_meaning.specs.StackCommand.{Stack}
use Rattle.smt_meaning.specs.Report.{IsPartOfStack}
use Rattle.smt_meaning.specs.Nodes.{pick}
use Rattle.smt_laws.specs.Rows.{place_divisor}
use Rattle.linear_forms.specs.declared.differences.DifferenceError.{DifferenceError}
use Rattle.linear_forms.specs.declared.differences.DifferenceError.TheVariants.{Term as FoldedTerm, Pair as FoldedPair}
use Rattle.linear_forms.specs.Differences.{Refuses}
use Rattle.linear_forms.specs.Table.{Known, AreForms}
use Rattle.scope_stack.specs.Facts.{AreSorts}
use Rattle.scope_stack.specs.Shown.{IsLawful}
use Rattle.check_atoms.specs.Parts.{IsMarked}
use Rattle.check_atoms.specs.Marks.{AreStackParts}
use Rattle.check_atoms.specs.AssertedDistinct.{IsAssertedDistinct}
use Rattle.pair_bounds.specs.declared.rows.RowLimit.{RowLimit}
use Rattle.bound_clauses.specs.declared.orders.Sense.{Sense}
use Rattle.bound_clauses.specs.declared.orders.Sense.TheVariants.{NotAbove, Below}
use Rattle.bound_clauses.specs.declared.orders.Order.{Order}
use Rattle.bound_clauses.specs.Orders.{order_atoms}
use Rattle.check_atoms.specs.declared.refusal.Refusal.{Refusal}
use Rattle.check_atoms.specs.declared.refusal.Refusal.TheVariants.{Term as RefusedTerm, Pair as RefusedPair, Limit as RefusedLimit}
use Rattle.check_atoms.specs.declared.part.PartAtom.{PartAtom}
use Rattle.check_atoms.specs.declared.part.PartAtom.TheVariants.{Bound, Limit}
use Rattle.check_atoms.specs.Numbering.{fits_by, RefusesBound, RefusesRows, RefusesDivision as RefusesDivisionAt}
use Rattle.check_atoms.specs.OfStack.{IsNode, IsRefused as IsAtomRefused, AreCheckAtoms, part_atoms}
use Rattle.check_atoms.specs.PartAtoms.{by_sort as part_by_sort, alone_by_sort, pair as part_pair, alone, neighbours_from, first_with, each_two as each_two_atoms, of_equal, of_distinct, compared, truth_by_sort, sort_of}
use Rattle.order_clauses.specs.declared.error.PartError.{PartError}
use Rattle.order_clauses.specs.declared.error.PartError.TheVariants.{Missing, Term as PartTerm, Pair as PartPair, Limit as PartLimit, Memory as PartMemory}
use Rattle.order_clauses.specs.declared.pairs.Pair.{Pair}
use Rattle.order_clauses.specs.Pairs.{pair, neighbours, with_each, each_two}
use Rattle.order_clauses.specs.Clauses.{has_rows, sort_at, by_sort, of_ints}
use Rattle.order_clauses.specs.Needed.{orders_tied, orders_of_part, limits_of_division, atoms_of_part, HaveTruths}
use Rattle.order_clauses.specs.Errors.{order_fits, IsRefused as IsOrderRefused, RefusesDivision, IsPartCause}
use Rattle.order_clauses.specs.Sound.{HasSort}
use Rattle.order_clauses.proofs.Causes.{Contains-map, All-from_contains}
use Rattle.order_clauses.proofs.Soundness.{All-left, All-right}
use Rattle.order_clauses.proofs.Sorting.{one_sort}
use Rattle.first_clauses.specs.CheckClausesFirst.{IsRefusalOf}
use Rattle.first_clauses.proofs.Numbered.{part_numbered}
use Rattle.first_clauses.proofs.Parts.{arguments_marked, has_sort, truth_numbered}

-- ---- the orders of a part are among what is numbered for it

module _ (ds : List Declaration) (ts : List Tree) (P : PartAtom → Type 0) where
  abbrev Q : Order → Type 0
  Q o = P (Bound o)

  abbrev sort : ℕ → Option Sort
  sort = sort_of ds ts

  unmap : (os : List Order) → All P (map Bound os) → All Q os
  unmap [] h = All-nil Q
  unmap (o ∷ os) h = All-cons Q o os (All-head P (Bound o) (map Bound os) h) (unmap os (All-tail P (Bound o) (map Bound os) h))

  -- whether pairs of this sort are compared as Ints
  abbrev Compares : Sort → Bool → Type 0
  Compares Truths b = ⊥
  Compares Ints true = Unit {0}
  Compares Ints false = ⊥
  Compares (Free n) true = ⊥
  Compares (Free n) false = Unit {0}

  pair_by : (r : Sort) (int : Bool) (i j : ℕ) → Compares r int → All P (part_by_sort (Some r) i j) → All Q (orders_tied int (pair i j))
  pair_by Truths int i j c h = absurd c
  pair_by Ints true i j c h = unmap (orders_tied true (pair i j)) (All-right P (part_by_sort (Some (Free 0)) i j) (map Bound (orders_tied true (pair i j))) h)
  pair_by Ints false i j c h = absurd c
  pair_by (Free n) true i j c h = absurd c
  pair_by (Free n) false i j c h = All-nil Q

  pair_in : (r : Sort) (int : Bool) (i j : ℕ) → Compares r int → sort i ≡ Some r → All P (part_pair sort i j) → All Q (orders_tied int (pair i j))
  pair_in r int i j c e h = pair_by r int i j c (subst (λ o. All P (part_by_sort o i j)) e h)

  alone_in : (i j : ℕ) → sort i ≡ Some Ints → All P (alone sort i j) → All Q (orders_tied true (pair i j))
  alone_in i j e h = pair_by Ints true i j tt (subst (λ o. All P (alone_by_sort o i j)) e h)

  flat_append : (f : Pair → List Order) (xs ys : List Pair) → All Q (flat_map f xs) → All Q (flat_map f ys) → All Q (flat_map f (xs ++ ys))
  flat_append f [] ys h k = k
  flat_append f (x ∷ xs) ys h k = All-append Q (f x) (flat_map f (xs ++ ys)) (parts (f x) (flat_map f xs) h).0 (flat_append f xs ys (parts (f x) (flat_map f xs) h).1 k)
    where
      parts : (cs bs : List Order) → All Q (cs ++ bs) → All Q cs × All Q bs
      parts [] bs h = (All-nil Q, h)
      parts (a ∷ cs) bs h =
          let rest = parts cs bs (All-tail Q a (cs ++ bs) h) in
          (All-cons Q a cs (All-head Q a (cs ++ bs) h) rest.0, rest.1)

  module _ (r : Sort) (int : Bool) (c : Compares r int) where
    abbrev IsOfSort : ℕ → Type 0
    IsOfSort k = sort k ≡ Some r

    neighbours_in : (i : ℕ) (js : List ℕ) → All IsOfSort (i ∷ js) → All P (neighbours_from sort i js) → All Q (flat_map (orders_tied int) (neighbours i js))
    neighbours_in i [] s h = All-nil Q
    neighbours_in i (j ∷ js) s h =
        All-append Q (orders_tied int (pair i j)) (flat_map (orders_tied int) (neighbours j js))
        (pair_in r int i j c (All-head IsOfSort i (j ∷ js) s) (All-left P (part_pair sort i j) (neighbours_from sort j js) h))
        (neighbours_in j js (All-tail IsOfSort i (j ∷ js) s) (All-right P (part_pair sort i j) (neighbours_from sort j js) h))

    first_in : (i : ℕ) (js : List ℕ) → IsOfSort i → All P (first_with sort i js) → All Q (flat_map (orders_tied int) (with_each i js))
    first_in i [] s h = All-nil Q
    first_in i (j ∷ js) s h =
        All-append Q (orders_tied int (pair i j)) (flat_map (orders_tied int) (with_each i js))
        (pair_in r int i j c s (All-left P (part_pair sort i j) (first_with sort i js) h)) (first_in i js s (All-right P (part_pair sort i j) (first_with sort i js) h))

    two_in : (is : List ℕ) → All IsOfSort is → All P (each_two_atoms sort is) → All Q (flat_map (orders_tied int) (each_two is))
    two_in [] s h = All-nil Q
    two_in (i ∷ is) s h =
        flat_append (orders_tied int) (with_each i is) (each_two is)
        (first_in i is (All-head IsOfSort i is s) (All-left P (first_with sort i is) (each_two_atoms sort is) h))
        (two_in is (All-tail IsOfSort i is s) (All-right P (first_with sort i is) (each_two_atoms sort is) h))

  -- elements have no orders
  none_tied : (qs : List Pair) → All Q (flat_map (orders_tied false) qs)
  none_tied [] = All-nil Q
  none_tied (q ∷ qs) = none_tied qs

  unless : (b : Bool) (os : List Order) → All Q os → All Q (if b then [] else os)
  unless true os h = All-nil Q
  unless false os h = h

  equal_in : (r : Sort) (i : ℕ) (is : List ℕ) → All (λ k. sort k ≡ Some r) (i ∷ is) → All P (of_equal sort (i ∷ is)) → All Q (by_sort r (length (i ∷ is)) (λ int. flat_map (orders_tied int) (neighbours i is)))
  equal_in Truths i is s h = All-nil Q
  equal_in Ints i [] s h = All-nil Q
  equal_in Ints i (j ∷ []) s h = All-append Q (orders_tied true (pair i j)) [] (alone_in i j (All-head (λ k. sort k ≡ Some Ints) i (j ∷ []) s) h) (All-nil Q)
  equal_in Ints i (j ∷ k ∷ ls) s h = neighbours_in Ints true tt i (j ∷ k ∷ ls) s h
  equal_in (Free n) i is s h = unless (nat_eq (length (i ∷ is)) 2) (flat_map (orders_tied false) (neighbours i is)) (none_tied (neighbours i is))

  distinct_in : (r : Sort) (i : ℕ) (is : List ℕ) → All (λ k. sort k ≡ Some r) (i ∷ is) → All P (of_distinct sort (i ∷ is)) → All Q (by_sort r (length (i ∷ is)) (λ int. flat_map (orders_tied int) (each_two (i ∷ is))))
  distinct_in Truths i is s h = All-nil Q
  distinct_in Ints i [] s h = All-nil Q
  distinct_in Ints i (j ∷ []) s h = All-append Q (orders_tied true (pair i j)) [] (alone_in i j (All-head (λ k. sort k ≡ Some Ints) i (j ∷ []) s) h) (All-nil Q)
  distinct_in Ints i (j ∷ k ∷ ls) s h = two_in Ints true tt (i ∷ j ∷ k ∷ ls) s h
  distinct_in (Free n) i is s h = unless (nat_eq (length (i ∷ is)) 2) (flat_map (orders_tied false) (each_two (i ∷ is))) (none_tied (each_two (i ∷ is)))

  choice_in : (r : Sort) (p i j : ℕ) → sort p ≡ Some r → All P (alone sort p i ++ alone sort p j) → All Q (of_ints r (orders_tied true (pair p i) ++ (orders_tied true (pair p j) ++ [])))
  choice_in Truths p i j e h = All-nil Q
  choice_in Ints p i j e h =
      All-append Q (orders_tied true (pair p i)) (orders_tied true (pair p j) ++ []) (alone_in p i e (All-left P (alone sort p i) (alone sort p j) h))
      (All-append Q (orders_tied true (pair p j)) [] (alone_in p j e (All-right P (alone sort p i) (alone sort p j) h)) (All-nil Q))
  choice_in (Free n) p i j e h = All-nil Q

module _ (ds : List Declaration) (ts : List Tree) (sorts : List Sort) (P : PartAtom → Type 0) where
  orders_told : (o : Operator) (p : ℕ) (is : List ℕ) → tree_at ts p ≡ node (Theory o) (pick ts is) → All (HasSort ds ts sorts) (p ∷ is) → All P (compared (sort_of ds ts) (place_divisor ts is) o p is)
      → All (λ x. P (Bound x)) (orders_of_part sorts o p is)
  orders_told AtMost p is e s h = unmap ds ts P (order_atoms AtMost is) h
  orders_told Less p is e s h = unmap ds ts P (order_atoms Less is) h
  orders_told AtLeast p is e s h = unmap ds ts P (order_atoms AtLeast is) h
  orders_told Greater p is e s h = unmap ds ts P (order_atoms Greater is) h
  orders_told Equal p [] e s h = All-nil (λ x. P (Bound x))
  orders_told Equal p (i ∷ is) e s h = equal_in ds ts P (sort_at sorts i) i is (one_sort ds ts sorts Equal p i is refl e s).same h
  orders_told Distinct p [] e s h = All-nil (λ x. P (Bound x))
  orders_told Distinct p (i ∷ is) e s h = distinct_in ds ts P (sort_at sorts i) i is (one_sort ds ts sorts Distinct p i is refl e s).same h
  orders_told Ite p (c ∷ i ∷ j ∷ []) e s h = choice_in ds ts P (sort_at sorts p) p i j (All-head (HasSort ds ts sorts) p (c ∷ i ∷ j ∷ []) s) h
  orders_told o p is e s h = All-nil (λ x. P (Bound x))

-- ---- so what refuses them refuses the part

fits_same : (sense : Sense) → order_fits sense ≡ fits_by sense
fits_same NotAbove = refl
fits_same Below = refl

rows_compared : (ds : List Declaration) (ts : List Tree) (o : Operator) (p : ℕ) (is : List ℕ) (l : RowLimit) → IsTrue (has_rows o) → Contains (limits_of_division ts o p is) l
    → Contains (compared (sort_of ds ts) (place_divisor ts is) o p is) (Limit l)
rows_compared ds ts Divide p is l t c = Contains-map Limit (limits_of_division ts Divide p is) l c
rows_compared ds ts Modulo p is l t c = Contains-map Limit (limits_of_division ts Modulo p is) l c
rows_compared ds ts Absolute p is l t c = Contains-map Limit (limits_of_division ts Absolute p is) l c
rows_compared ds ts Divisible p is l t c = Contains-map Limit (limits_of_division ts Divisible p is) l c
rows_compared ds ts o p is l t c = absurd (let x : false ≡ true = t in cc)

module _ (s : Stack) (sorts : List Sort) (table : List Atom) (o : Operator) (p : ℕ) (is : List ℕ) (part : IsPartOfStack s.frames (tree_at s.trees p)) (term : IsNode s.trees p (Theory o) is)
    (sorted : All (HasSort (signature_of s.frames) s.trees sorts) (p ∷ is)) where
  abbrev ds : List Declaration
  ds = signature_of s.frames

  among_part : (a : PartAtom) → Contains (compared (sort_of ds s.trees) (place_divisor s.trees is) o p is) a → Contains (part_atoms s p (Theory o) is) a
  among_part a c = Contains-append_right (truth_by_sort (sort_of ds s.trees p) p) (compared (sort_of ds s.trees) (place_divisor s.trees is) o p is) a c

  order_among : (x : Order) → Contains (orders_of_part sorts o p is) x → Contains (part_atoms s p (Theory o) is) (Bound x)
  order_among x c =
      let cs : List PartAtom = compared (sort_of ds s.trees) (place_divisor s.trees is) o p is in
      among_part (Bound x)
      (All-contains (λ y. Contains cs (Bound y)) (orders_of_part sorts o p is) x (orders_told ds s.trees sorts (Contains cs) o p is term.tree sorted (All-from_contains (Contains cs) cs (λ a b. b))) c)

  row_among : (l : RowLimit) → IsTrue (has_rows o) → Contains (limits_of_division s.trees o p is) l → Contains (part_atoms s p (Theory o) is) (Limit l)
  row_among l t c = among_part (Limit l) (rows_compared ds s.trees o p is l t c)

  refused_part : (e : Refusal)
      → RefusesBound s.trees p (part_atoms s p (Theory o) is) e ⊎ (RefusesRows s.trees p (part_atoms s p (Theory o) is) e ⊎ RefusesDivisionAt s.trees p is e) → IsAtomRefused s e
  refused_part e h = inr (record { place = p; head = Theory o; arguments = is; part = part; term = term; atom = h })

  folding : (x : Order) (e : DifferenceError) → Refuses s.trees (order_fits x.sense s.trees) x.lesser x.greater e → Refuses s.trees (fits_by x.sense s.trees) x.lesser x.greater e
  folding x e h = subst (λ (f : List Tree → Tree → Tree → Bool). Refuses s.trees (f s.trees) x.lesser x.greater e) (fits_same x.sense) h

  by_order : (e : PartError) (r : Refusal) → IsOrderRefused s.trees (orders_of_part sorts o p is) e → IsRefusalOf p e r → IsAtomRefused s r
  by_order Missing r h i = absurd i
  by_order (PartTerm q) r h i =
      subst (IsAtomRefused s) (sym i)
      (refused_part (RefusedTerm q) (inl (record { order = h.order; among = order_among h.order h.among; refuses = folding h.order (FoldedTerm q) h.refuses })))
  by_order (PartPair x) r h i =
      subst (IsAtomRefused s) (sym i)
      (refused_part (RefusedPair p x) (inl (record { order = h.order; among = order_among h.order h.among; refuses = (refl, h.refuses.0, folding h.order FoldedPair h.refuses.1) })))
  by_order PartLimit r h i = absurd h.refuses
  by_order PartMemory r h i = absurd h.refuses

  by_division : (e : PartError) (r : Refusal) → IsTrue (has_rows o) → RefusesDivision s.trees is (limits_of_division s.trees o p is) e → IsRefusalOf p e r → IsAtomRefused s r
  by_division Missing r t h i = absurd i
  by_division (PartTerm q) r t (inl h) i = subst (IsAtomRefused s) (sym i) (refused_part (RefusedTerm q) (inr (inr h)))
  by_division (PartTerm q) r t (inr h) i =
      subst (IsAtomRefused s) (sym i) (refused_part (RefusedTerm q) (inr (inl (record { limit = h.limit; among = row_among h.limit t h.among; refuses = h.refuses }))))
  by_division (PartPair x) r t (inl h) i = absurd h
  by_division (PartPair x) r t (inr h) i = absurd h.refuses
  by_division PartLimit r t (inl h) i = subst (IsAtomRefused s) (sym i) (refused_part (RefusedLimit p) (inr (inr (refl, h))))
  by_division PartLimit r t (inr h) i =
      subst (IsAtomRefused s) (sym i) (refused_part (RefusedLimit p) (inr (inl (record { limit = h.limit; among = row_among h.limit t h.among; refuses = (refl, h.refuses) }))))
  by_division PartMemory r t (inl h) i = absurd h
  by_division PartMemory r t (inr h) i = absurd h.refuses

  by_either : (e : PartError) (r : Refusal) → IsOrderRefused s.trees (orders_of_part sorts o p is) e ⊎ (IsTrue (has_rows o) × RefusesDivision s.trees is (limits_of_division s.trees o p is) e) → IsRefusalOf p e r
      → IsAtomRefused s r
  by_either e r (inl h) i = by_order e r h i
  by_either e r (inr h) i = by_division e r h.0 h.1 i

  pub refused : (e : PartError) (r : Refusal) → IsPartCause sorts s.trees table o p is e → IsRefusalOf p e r → IsAtomRefused s r
  refused Missing r h i = absurd i
  refused (PartTerm q) r h i = by_either (PartTerm q) r h i
  refused (PartPair x) r h i = by_either (PartPair x) r h i
  refused PartLimit r h i = by_either PartLimit r h i
  refused PartMemory r h i = inl i

-- where all atoms of the clauses have numbers, none is missing
pub none_missing : (sorts : List Sort) (ts : List Tree) (table : List Atom) (o : Operator) (p : ℕ) (is : List ℕ) (e : PartError) → All (Contains table) (atoms_of_part sorts ts o p is)
    → IsPartCause sorts ts table o p is e → e ≡ Missing → ⊥
none_missing sorts ts table o p is e all h i = (subst (IsPartCause sorts ts table o p is) i h) all

-- ---- of a stack

module _ (s : Stack) (marks : List Bool) (law : IsLawful s) (parts : AreStackParts s marks) (sorts : List Sort) (listed : AreSorts (signature_of s.frames) s.trees (length s.trees) sorts) (table : List Atom)
    (atoms : AreCheckAtoms s marks table) (o : Operator) (p : ℕ) (is : List ℕ) (marked : IsMarked marks p) (term : IsNode s.trees p (Theory o) is) where
  all_marked : All (IsMarked marks) (p ∷ is)
  all_marked = All-cons (IsMarked marks) p is marked (arguments_marked s marks law parts atoms.size p (Theory o) is marked term.tree term.arguments)

  all_sorted : All (HasSort (signature_of s.frames) s.trees sorts) (p ∷ is)
  all_sorted = All-weaker (IsMarked marks) (HasSort (signature_of s.frames) s.trees sorts) (has_sort s marks law parts atoms.size sorts listed) (p ∷ is) all_marked

  have_truths : (known : List Known) → AreForms s.trees known → HaveTruths (signature_of s.frames) s.trees table (p ∷ is)
  have_truths known forms =
      All-weaker (IsMarked marks) (λ i. tree_sort (signature_of s.frames) (tree_at s.trees i) ≡ Some Truths → Contains table (Truth i)) (λ i m. truth_numbered s marks law parts atoms.size table known atoms forms i m)
      (p ∷ is) all_marked

  pub never_missing : (known : List Known) → AreForms s.trees known → (IsAssertedDistinct s p (Theory o) is → ⊥) → (e : PartError) → IsPartCause sorts s.trees table o p is e → e ≡ Missing → ⊥
  never_missing known forms other e h =
      none_missing sorts s.trees table o p is e
      (part_numbered (signature_of s.frames) s.trees sorts table o p is term.tree all_sorted (have_truths known forms)
      (elim (atoms.each p (Theory o) is marked term).compared [ inl asserted ↦ absurd (other asserted) | inr all ↦ all ])) h

  pub part_refused : (e : PartError) (r : Refusal) → IsPartCause sorts s.trees table o p is e → IsRefusalOf p e r → IsAtomRefused s r
  part_refused e r h i = refused s sorts table o p is (parts.only p marked) term all_sorted e r h i
