-- What a log that makes the first clauses true says of assertions, of their conjuncts, and of what these compare.
use Rattle.std.proofs.Common.{◌≡◌, ◌≢◌, inl, inr, ℕ, ◌<◌, ◌≤◌, Bool, true, false, not, List, [], ◌∷◌, ◌++◌, map, length, get_or, All, Contains, Some, subst, sym, ap, ◌∙◌, arith, refl, flat_map}
use Rattle.std.specs.Prelude.{Option, IsTrue, if◌then◌else◌}
use Rattle.std.proofs.lemmas.List.{get_or_default, map-append}
use Rattle.std.proofs.lemmas.List.Elements.{All-nil, All-cons, All-head, All-tail, All-append, All-map, All-weaker, All-contains, Contains-append_cases, Contains-push_cases}
use Rattle.smt_laws.proofs.Both.{and_left, and_right}
use Rattle.literals.specs.Signed.{Signed}
use Rattle.clause_store.specs.Stored.{Kept}
use Rattle.smt_meaning.specs.declared.values.Sort.{Sort}
use Rattle.smt_meaning.specs.declared.values.Sort.TheVariants.{Bool as Truths, Int as Ints, Free}
use Rattle.smt_meaning.specs.declared.terms.Operator.{Operator}
use Rattle.smt_meaning.specs.declared.terms.Operator.TheVariants.{And, Equal, Distinct, AtMost as IsAtMost, Less, AtLeast, Greater}
use Rattle.smt_meaning.specs.declared.terms.Head.TheVariants.{Theory}
use Rattle.smt_meaning.specs.declared.clauses.Atom.{Atom}
use Rattle.smt_meaning.specs.declared.clauses.Atom.TheVariants.{Truth, AtMost, Same}
use Rattle.smt_meaning.specs.Declaration.{Declaration}
use Rattle.smt_meaning.specs.Term.{Tree, Trees, node, none, more, tree_at}
use Rattle.smt_meaning.specs.TreeShape.{place_of}
use Rattle.smt_meaning.specs.Nodes.{pick}
use Rattle.smt_meaning.specs.Parts.{IsOneOf}
use Rattle.smt_meaning.specs.Signature.{tree_sort, is_int, all_of, sort_eq, if_so, operator_sort}
use Rattle.smt_meaning.specs.Clause.{atom_places}
use Rattle.smt_meaning.specs.Forced.{Sign}
use Rattle.smt_meaning.specs.Stack.{signature_of}
use Rattle.smt_meaning.specs.StackCommand.{Stack}
use Rattle.smt_meaning.specs.Atoms.{at_most_atom, pair_atoms, of_neighbours_from, comparison_atoms}
use Rattle.smt_meaning.specs.Boxes.{conjuncts, conjuncts_of, said_atoms}
use Rattle.scope_stack.specs.Facts.{AreSorts}
use Rattle.scope_stack.specs.Shown.{IsLawful}
use Rattle.search_port.specs.State.{IsConsistent, IsMadeTrue, truth_atoms}
use Rattle.clause_form.specs.Signs.{once as once_signs, clashes, negated, is_sign_in, yes as yes_sign}
use Rattle.clause_form.specs.NodeClauses.{never, conjunction, all_of as all_signs, node_clauses}
use Rattle.clause_form.specs.WideClauses.{wide_clauses}
use Rattle.clause_form.specs.Node.{signed, literals_of_node}
use Rattle.clause_form.proofs.Signs.{in_contains}
use Rattle.equality_clauses.specs.Once.{once}
use Rattle.equality_clauses.specs.Ties.{literal, yes, no, joined, comparison_clauses}
use Rattle.bound_clauses.specs.declared.orders.Sense.TheVariants.{NotAbove}
use Rattle.bound_clauses.specs.declared.orders.Order.{Order}
use Rattle.bound_clauses.specs.Orders.{order, order_atoms, bound_atom}
use Rattle.bound_clauses.specs.Ties.{order_clauses, equal_clauses}
use Rattle.bound_clauses.specs.Laws.{orders, OrdersAreComparisons}
use Rattle.bound_clauses.proofs.Comparing.{All-of_once}
use Rattle.atom_form.specs.AtomTableNumbers.{IsAt}
use Rattle.check_atoms.specs.Parts.{IsMarked}
use Rattle.check_atoms.specs.Marks.{AreStackParts}
use Rattle.check_atoms.specs.AssertedDistinct.{IsAssertedDistinct}
use Rattle.check_atoms.specs.PartAtoms.{atom_of, by_sort, alone_by_sort, neighbours_from, of_equal, sort_of}
use Rattle.check_atoms.specs.OfStack.{IsNode, AreCheckAtoms}
use Rattle.check_atoms.specs.Laws.{PartsHaveNumbers}
use Rattle.check_atoms.proofs.Sorting.{sort_is}
use Rattle.check_atoms.proofs.StackAtomsPlaces.{Picked}
use Rattle.order_clauses.specs.declared.pairs.Pair.{Pair}
use Rattle.order_clauses.specs.Pairs.{pair, neighbours, orders_of_pair}
use Rattle.order_clauses.specs.Numbers.{number_in}
use Rattle.order_clauses.specs.Clauses.{sort_at, truth_number, same_number, bound_number, of_bound, int_tie, tie, order_part, equality_part, by_sort as clauses_by_sort, part_clauses_of}
use Rattle.order_clauses.specs.Sound.{HasSort}
use Rattle.order_clauses.proofs.Numbering.{found}
use Rattle.order_clauses.proofs.Soundness.{All-unmap, All-left, All-right, All-unflat}
use Rattle.order_clauses.proofs.Sorting.{asked, if_so_true}
use Rattle.first_clauses.specs.Numbers.{AreNumbers}
use Rattle.first_clauses.specs.Turned.{IsKeptTurned}
use Rattle.first_clauses.specs.PartClausesFirst.{HasClause, IsAsserted, unit}
use Rattle.first_clauses.specs.CheckClausesFirst.{AreBools, HasTruths, HasPart, HasParts}
use Rattle.first_clauses.proofs.Numbering.{one_place, contained}
use Rattle.first_clauses.proofs.NodeForcing.{arguments_at}
use Rattle.first_clauses.proofs.Parts.{within, arguments_marked, has_sort}

only_one : {X : Type 0} (x y : X) → Contains (x ∷ []) y → x ≡ y
only_one x y c = elim (Contains-push_cases [] x y c) [ inl nothing ↦ absurd (omega (arith, nothing.1)) | inr e ↦ e ]

-- ---- in a consistent log

module _ (log : List Signed) (consistent : IsConsistent log) where
  abbrev IsYes : ℕ → Type 0
  IsYes n = Contains log (yes n)

  clash : (n : ℕ) → IsYes n → Contains log (no n) → ⊥
  clash n a b = consistent (yes n) a b

  -- what the only literal that isn't false says
  pub second_told : (t n : ℕ) → IsMadeTrue log (no t ∷ yes n ∷ []) → IsYes t → IsYes n
  second_told t n made h =
      All-contains (λ l. Contains log l → IsYes n) (no t ∷ yes n ∷ []) made.0
      (All-cons (λ l. Contains log l → IsYes n) (no t) (yes n ∷ []) (λ c. absurd (clash t h c)) (All-cons (λ l. Contains log l → IsYes n) (yes n) [] (λ c. c) (All-nil (λ l. Contains log l → IsYes n))))
      made.1 made.2

  pub only_told : (l : Signed) → IsMadeTrue log (l ∷ []) → Contains log l
  only_told l made = subst (Contains log) (sym (only_one l made.0 made.1)) made.2

  pub joined_told : (t : ℕ) (ns : List ℕ) → All (IsMadeTrue log) (joined t true (once ns)) → IsYes t → All IsYes ns
  joined_told t ns made h =
      let pairs : All (λ m. IsMadeTrue log (no t ∷ yes m ∷ [])) (once ns) =
      All-unmap (IsMadeTrue log) (λ m. no t ∷ literal true m ∷ []) (once ns)
      (All-tail (IsMadeTrue log) (yes t ∷ map (literal (not true)) (once ns)) (map (λ m. no t ∷ literal true m ∷ []) (once ns)) made) in
      All-weaker (λ m. IsMadeTrue log (no t ∷ yes m ∷ [])) IsYes (λ n k. second_told t n k h) ns (All-of_once (λ m. IsMadeTrue log (no t ∷ yes m ∷ [])) [] ns pairs).1

  -- ---- a conjunction

  -- a clause of at most two literals is made true
  abbrev pub IsMadeShort : List Signed → Type 0
  IsMadeShort ls = length ls ≤ 2 → IsMadeTrue log ls

  once_all : (P : Sign → Type 0) (ss : List Sign) → All P (once_signs ss) → All P ss
  once_all P [] h = All-nil P
  once_all P (s ∷ ss) h = by (is_sign_in s ss) refl h (once_all P ss)
    where
      by : (b : Bool) → is_sign_in s ss ≡ b → All P (if b then once_signs ss else s ∷ once_signs ss) → (All P (once_signs ss) → All P ss) → All P (s ∷ ss)
      by true e k rest = let all : All P ss = rest k in All-cons P s ss (All-contains P ss s all (in_contains s ss e)) all
      by false e k rest = All-cons P s ss (All-head P s (once_signs ss) k) (rest (All-tail P s (once_signs ss) k))

  abbrev IsShortClause : List Sign → Type 0
  IsShortClause c = IsMadeShort (map signed c)

  gate_told : (n : ℕ) (xs : List ℕ) → All IsShortClause (all_signs (yes_sign n) (map yes_sign xs)) → IsYes n → All IsYes xs
  gate_told n xs all h = by (clashes (map yes_sign xs)) all
    where
      by : (b : Bool) → All IsShortClause (if b then never (yes_sign n) else conjunction (yes_sign n) (once_signs (map yes_sign xs))) → All IsYes xs
      by true k = absurd (clash n h (only_told (no n) (All-head IsShortClause (negated (yes_sign n) ∷ []) [] k (omega arith))))
      by false k =
          let pairs : All (λ s. IsShortClause (negated (yes_sign n) ∷ s ∷ [])) (map yes_sign xs) =
          once_all (λ s. IsShortClause (negated (yes_sign n) ∷ s ∷ [])) (map yes_sign xs)
          (All-unmap IsShortClause (λ (s : Sign). negated (yes_sign n) ∷ s ∷ []) (once_signs (map yes_sign xs))
          (All-tail IsShortClause (yes_sign n ∷ map negated (once_signs (map yes_sign xs))) (map (λ (s : Sign). negated (yes_sign n) ∷ s ∷ []) (once_signs (map yes_sign xs))) k)) in
          All-weaker (λ x. IsShortClause (negated (yes_sign n) ∷ yes_sign x ∷ [])) IsYes (λ x made. second_told n x (made (omega arith)) h) xs
          (All-unmap (λ s. IsShortClause (negated (yes_sign n) ∷ s ∷ [])) yes_sign xs pairs)

  pub conjunction_told : (n : ℕ) (xs : List ℕ) → All IsMadeShort (literals_of_node And n xs) → IsYes n → All IsYes xs
  unfolding literals_of_node
  conjunction_told n [] all h = All-nil IsYes
  conjunction_told n (x ∷ xs) all h =
      gate_told n (x ∷ xs)
      (All-left IsShortClause (node_clauses And n (x ∷ xs)) (wide_clauses And n (x ∷ xs)) (All-unmap IsMadeShort (map signed) (node_clauses And n (x ∷ xs) ++ wide_clauses And n (x ∷ xs)) all)) h

-- ---- of a stack

module _ (s : Stack) (marks : List Bool) (sorts : List Sort) (table : List Atom) (law : IsLawful s) (parts : AreStackParts s marks) (atoms : AreCheckAtoms s marks table)
    (sorted : AreSorts (signature_of s.frames) s.trees (length s.trees) sorts) (numbers : PartsHaveNumbers) (compared : OrdersAreComparisons)
    (clauses : List Kept) (has : HasParts s marks sorts table clauses) (log : List Signed) (consistent : IsConsistent log) (made : (k : Kept) → Contains clauses k → IsMadeTrue log k.literals) where
  abbrev ts : List Tree
  ts = s.trees

  abbrev ds : List Declaration
  ds = signature_of s.frames

  -- ---- clauses that are kept are made true

  kept_made : (ls : List Signed) → HasClause clauses ls → IsMadeTrue log ls
  kept_made ls h = subst (IsMadeTrue log) h.literals (made h.kept h.among)

  pub all_made : (cs : List (List Signed)) → All (HasClause clauses) cs → All (IsMadeTrue log) cs
  all_made cs h = All-weaker (HasClause clauses) (IsMadeTrue log) kept_made cs h

  short_made : (ls : List Signed) → IsKeptTurned ts table clauses ls → IsMadeShort log consistent ls
  short_made ls k few = kept_made ls (subst (HasClause clauses) (sym (k.short few)) k.kept)

  -- ---- terms that are told to be true

  abbrev pub IsToldTerm : ℕ → Type 0
  IsToldTerm p = Contains log (yes (truth_number table p))

  -- at a place of a part
  pub record IsTrueTerm (t : Tree) : Type 0 where
    pub place : ℕ
    pub marked : IsMarked marks place
    pub tree : tree_at ts place ≡ t
    pub told : IsToldTerm place

  number_is : (n p : ℕ) → IsAt table n (Truth p) → n ≡ truth_number table p
  number_is n p at = one_place table n (truth_number table p) (Truth p) atoms.apart at (found table (Truth p) (contained table n (Truth p) at))

  pub asserted_true : (t : Tree) → IsAsserted ts table clauses t → IsTrueTerm t
  asserted_true t a =
      let at : IsAt table a.number (Truth a.place) = (a.within, λ d. get_or_default table a.number d (Truth 0) a.within ∙ a.atom) in
      record {
        place = a.place;
        marked = All-head (IsMarked marks) a.place [] (subst (λ (x : Atom). All (IsMarked marks) (atom_places x)) a.atom (atoms.over_parts a.number (Truth 0) a.within));
        tree = a.term;
        told = subst (λ n. Contains log (yes n)) (number_is a.number a.place at) (only_told log consistent (yes a.number) (kept_made (unit a.number) a.kept));
      }

  -- ---- sorts of arguments

  sort_there : (p : ℕ) → IsMarked marks p → HasSort ds ts sorts p
  sort_there p m = has_sort s marks law parts atoms.size sorts sorted p m

  listed_all : (r : Sort) (is : List ℕ) → all_of r (map (sort_at sorts) is) ≡ true → All (λ i. sort_at sorts i ≡ r) is
  listed_all r [] h = All-nil (λ i. sort_at sorts i ≡ r)
  listed_all r (i ∷ is) h =
      All-cons (λ j. sort_at sorts j ≡ r) i is (sym (sort_is r (sort_at sorts i) (and_left (sort_eq r (sort_at sorts i)) (all_of r (map (sort_at sorts) is)) h)))
      (listed_all r is (and_right (sort_eq r (sort_at sorts i)) (all_of r (map (sort_at sorts) is)) h))

  module _ (p : ℕ) (o : Operator) (is : List ℕ) (m : IsMarked marks p) (n : IsNode ts p (Theory o) is) where
    pub marked_arguments : All (IsMarked marks) is
    marked_arguments = arguments_marked s marks law parts atoms.size p (Theory o) is m n.tree n.arguments

    -- of an operator that asks one sort of its arguments
    pub asked_sort : (r q : Sort) → operator_sort o (map (sort_at sorts) is) ≡ if_so (all_of r (map (sort_at sorts) is)) q → All (λ i. sort_at sorts i ≡ r) is × (q ≡ sort_at sorts p)
    asked_sort r q says =
        let so = if_so_true (all_of r (map (sort_at sorts) is)) q (sort_at sorts p)
        (sym says ∙ asked ds ts sorts o p is n.tree (sort_there p m) (All-weaker (IsMarked marks) (HasSort ds ts sorts) sort_there is marked_arguments)) in
        (listed_all r is so.0, so.1)

    part_here : HasPart s sorts table clauses p o is
    part_here = has p o is m n

    -- the clauses of one that isn't all of Bools, and no asserted `distinct`
    pub others_made : (AreBools sorts (p ∷ is) → ⊥) → (IsAssertedDistinct s p (Theory o) is → ⊥) → All (IsMadeTrue log) (part_clauses_of sorts ts table o p is)
    others_made no_bools other = elim (part_here.of_others no_bools) [
      | inl distinct ↦ absurd (other distinct)
      | inr all ↦ all_made (part_clauses_of sorts ts table o p is) all
    ]

  -- ---- conjuncts

  numbers_told : (is xs : List ℕ) → AreNumbers table (truth_atoms is) xs → All (λ x. Contains log (yes x)) xs → All IsToldTerm is
  numbers_told [] xs h told = All-nil IsToldTerm
  numbers_told (i ∷ is) [] h told = absurd h
  numbers_told (i ∷ is) (x ∷ xs) h told =
      All-cons IsToldTerm i is (subst (λ n. Contains log (yes n)) (number_is x i h.0) (All-head (λ y. Contains log (yes y)) x xs told)) (numbers_told is xs h.1 (All-tail (λ y. Contains log (yes y)) x xs told))

  arguments_told : (p : ℕ) (is : List ℕ) → IsMarked marks p → IsNode ts p (Theory And) is → IsToldTerm p → All IsToldTerm is
  arguments_told p is m n h =
      let so = asked_sort p And is m n Truths Truths refl in
      let bools : AreBools sorts (p ∷ is) = All-cons (λ q. sort_at sorts q ≡ Truths) p is (sym so.1) so.0 in
      let truths : HasTruths ts table clauses p And is = (part_here p And is m n).of_bools bools in
      numbers_told is truths.numbers truths.are
      (conjunction_told log consistent truths.number truths.numbers
      (All-weaker (IsKeptTurned ts table clauses) (IsMadeShort log consistent) short_made (literals_of_node And truths.number truths.numbers) truths.kept)
      (subst (λ k. Contains log (yes k)) (sym (number_is truths.number p truths.here)) h))

  argument_true : (us : Trees) → IsTrueTerm (node (Theory And) us) → (u : Tree) → IsOneOf u us → IsTrueTerm u
  argument_true us h u c =
      let inside : h.place < length ts = within s marks law parts atoms.size h.place h.marked in
      let args : Picked ts us = arguments_at ts law.in_order h.place (Theory And) us inside h.tree in
      let n : IsNode ts h.place (Theory And) args.places = record { within = inside; tree = h.tree ∙ ap (node (Theory And)) (sym args.are); arguments = args.within } in
      each args.places (marked_arguments h.place And args.places h.marked n) (arguments_told h.place args.places h.marked n h.told) (subst (IsOneOf u) (sym args.are) c)
    where
      each : (is : List ℕ) → All (IsMarked marks) is → All IsToldTerm is → IsOneOf u (pick ts is) → IsTrueTerm u
      each [] ms told k = absurd k
      each (i ∷ is) ms told (inl e) = record { place = i; marked = All-head (IsMarked marks) i is ms; tree = sym e; told = All-head IsToldTerm i is told }
      each (i ∷ is) ms told (inr k) = each is (All-tail (IsMarked marks) i is ms) (All-tail IsToldTerm i is told) k

  mutual
    pub conjunct_true : (t : Tree) → IsTrueTerm t → (c : Tree) → Contains (conjuncts t) c → IsTrueTerm c
    conjunct_true (node (Theory And) us) h c k = some_true us (argument_true us h) c k
    conjunct_true (node g us) h c k = subst IsTrueTerm (only_one (node g us) c k) h

    some_true : (us : Trees) → ((u : Tree) → IsOneOf u us → IsTrueTerm u) → (c : Tree) → Contains (conjuncts_of us) c → IsTrueTerm c
    some_true none h c k = absurd (omega (arith, k.1))
    some_true (more u us) h c k = elim (Contains-append_cases (conjuncts u) (conjuncts_of us) c k) [
      | inl first ↦ conjunct_true u (h u (inl refl)) c first
      | inr rest ↦ some_true us (λ v one. h v (inr one)) c rest
    ]

  -- ---- bounds that are told

  -- the atom has a number, and the log has it
  pub record IsToldAtom (a : Atom) : Type 0 where
    pub numbered : Contains table a
    pub told : Contains log (yes (number_in table a))

  -- so is a bound; of another atom nothing is said
  abbrev pub IsHeld : Atom → Type 0
  IsHeld (AtMost sum k) = IsToldAtom (AtMost sum k)
  IsHeld (Truth i) = Unit {0}
  IsHeld (Same i j) = Unit {0}

  pub held : (a : Atom) → IsToldAtom a → IsHeld a
  held (AtMost sum k) h = h
  held (Truth i) h = tt
  held (Same i j) h = tt

  no_bools_by : (r : Sort) (p i : ℕ) (is : List ℕ) → sort_at sorts i ≡ r → r ≢ Truths → AreBools sorts (p ∷ i ∷ is) → ⊥
  no_bools_by r p i is e other h = other (sym e ∙ All-head (λ q. sort_at sorts q ≡ Truths) i is (All-tail (λ q. sort_at sorts q ≡ Truths) p (i ∷ is) h))

  pub no_bools : (p i : ℕ) (is : List ℕ) → sort_at sorts i ≡ Ints → AreBools sorts (p ∷ i ∷ is) → ⊥
  no_bools p i is e h = no_bools_by Ints p i is e (λ x. cc) h

  -- ---- comparisons

  orders_told : (p : ℕ) (o : Operator) (i : ℕ) (is : List ℕ) → IsMarked marks p → IsNode ts p (Theory o) (i ∷ is) → IsToldTerm p → IsTrue (orders o)
      → operator_sort o (map (sort_at sorts) (i ∷ is)) ≡ if_so (all_of Ints (map (sort_at sorts) (i ∷ is))) Truths → part_clauses_of sorts ts table o p (i ∷ is) ≡ order_part ts table o p (i ∷ is)
      → (IsAssertedDistinct s p (Theory o) (i ∷ is) → ⊥) → All IsHeld (comparison_atoms ts ds (Theory o) (pick ts (i ∷ is)))
  orders_told p o i is m n h ordering says part other =
      let os : List Order = order_atoms o (i ∷ is) in
      let ints = (asked_sort p o (i ∷ is) m n Ints Truths says).0 in
      let all : All (IsMadeTrue log) (order_part ts table o p (i ∷ is)) =
      subst (All (IsMadeTrue log)) part (others_made p o (i ∷ is) m n (no_bools p i is (All-head (λ j. sort_at sorts j ≡ Ints) i is ints)) other) in
      let tied : All (IsMadeTrue log) (order_clauses (truth_number table p) (map (bound_number ts table) os)) =
      All-right (IsMadeTrue log) (flat_map (of_bound ts table) os) (order_clauses (truth_number table p) (map (bound_number ts table) os)) all in
      let told : All (λ (q : Order). Contains log (yes (bound_number ts table q))) os =
      All-unmap (λ k. Contains log (yes k)) (bound_number ts table) os (joined_told log consistent (truth_number table p) (map (bound_number ts table) os) tied h) in
      let known : All (λ (q : Order). Contains table (bound_atom ts q)) os = All-unmap (Contains table) (bound_atom ts) os ((numbers s marks table atoms p o (i ∷ is) m n).comparison ordering) in
      subst (All IsHeld) (sym (compared ts ds o (i ∷ is) ordering))
      (All-map IsHeld (bound_atom ts) os (λ k d l. held (bound_atom ts (get_or os k d)) (record { numbered = known k d l; told = told k d l })))

  -- ---- equalities

  -- both bounds of the pair are told
  abbrev IsHeldPair : Pair → Type 0
  IsHeldPair q = IsToldAtom (bound_atom ts (order NotAbove q.left q.right)) × IsToldAtom (bound_atom ts (order NotAbove q.right q.left))

  bounds_if : (b : Bool) (i j : ℕ) → IsHeldPair (pair i j) → All IsHeld (if b then at_most_atom ts (tree_at ts i) (tree_at ts j) ∷ at_most_atom ts (tree_at ts j) (tree_at ts i) ∷ [] else [])
  bounds_if false i j h = All-nil IsHeld
  bounds_if true i j h =
      let below : Atom = at_most_atom ts (tree_at ts i) (tree_at ts j) in
      let above : Atom = at_most_atom ts (tree_at ts j) (tree_at ts i) in
      All-cons IsHeld below (above ∷ []) (held below h.0) (All-cons IsHeld above [] (held above h.1) (All-nil IsHeld))

  ints_held : (i : ℕ) (js : List ℕ) → All IsHeldPair (neighbours i js) → All IsHeld (of_neighbours_from (pair_atoms ts ds) (tree_at ts i) (pick ts js))
  ints_held i [] h = All-nil IsHeld
  ints_held i (j ∷ js) h =
      All-append IsHeld (pair_atoms ts ds (tree_at ts i) (tree_at ts j)) (of_neighbours_from (pair_atoms ts ds) (tree_at ts j) (pick ts js))
      (All-cons IsHeld (Same (place_of (tree_at ts i) ts) (place_of (tree_at ts j) ts))
      (if is_int (tree_sort ds (tree_at ts i)) then at_most_atom ts (tree_at ts i) (tree_at ts j) ∷ at_most_atom ts (tree_at ts j) (tree_at ts i) ∷ [] else []) tt
      (bounds_if (is_int (tree_sort ds (tree_at ts i))) i j (All-head IsHeldPair (pair i j) (neighbours j js) h)))
      (ints_held j js (All-tail IsHeldPair (pair i j) (neighbours j js) h))

  none_if : (b : Bool) (xs : List Atom) → b ≡ false → All IsHeld (if b then xs else [])
  none_if false xs e = All-nil IsHeld
  none_if true xs e = absurd cc

  abbrev IsNoInt : ℕ → Type 0
  IsNoInt i = is_int (tree_sort ds (tree_at ts i)) ≡ false

  others_held : (i : ℕ) (js : List ℕ) → All IsNoInt (i ∷ js) → All IsHeld (of_neighbours_from (pair_atoms ts ds) (tree_at ts i) (pick ts js))
  others_held i [] h = All-nil IsHeld
  others_held i (j ∷ js) h =
      All-append IsHeld (pair_atoms ts ds (tree_at ts i) (tree_at ts j)) (of_neighbours_from (pair_atoms ts ds) (tree_at ts j) (pick ts js))
      (All-cons IsHeld (Same (place_of (tree_at ts i) ts) (place_of (tree_at ts j) ts))
      (if is_int (tree_sort ds (tree_at ts i)) then at_most_atom ts (tree_at ts i) (tree_at ts j) ∷ at_most_atom ts (tree_at ts j) (tree_at ts i) ∷ [] else []) tt
      (none_if (is_int (tree_sort ds (tree_at ts i))) (at_most_atom ts (tree_at ts i) (tree_at ts j) ∷ at_most_atom ts (tree_at ts j) (tree_at ts i) ∷ []) (All-head IsNoInt i (j ∷ js) h)))
      (others_held j js (All-tail IsNoInt i (j ∷ js) h))

  -- both bounds of a pair of Ints are numbered
  abbrev AreNumbered : Pair → Type 0
  AreNumbered q = Contains table (bound_atom ts (order NotAbove q.left q.right)) × Contains table (bound_atom ts (order NotAbove q.right q.left))

  pair_numbered : (r : Option Sort) (i j : ℕ) → r ≡ Some Ints → All (Contains table) (map (atom_of ts) (by_sort r i j)) → AreNumbered (pair i j)
  pair_numbered r i j e h =
      let below : Atom = bound_atom ts (order NotAbove i j) in
      let above : Atom = bound_atom ts (order NotAbove j i) in
      let all : All (Contains table) (Same i j ∷ below ∷ above ∷ []) = subst (λ (x : Option Sort). All (Contains table) (map (atom_of ts) (by_sort x i j))) e h in
      let two : All (Contains table) (below ∷ above ∷ []) = All-tail (Contains table) (Same i j) (below ∷ above ∷ []) all in
      (All-head (Contains table) below (above ∷ []) two, All-head (Contains table) above [] (All-tail (Contains table) below (above ∷ []) two))

  abbrev IsIntAt : ℕ → Type 0
  IsIntAt i = sort_of ds ts i ≡ Some Ints

  neighbours_numbered : (i : ℕ) (js : List ℕ) → All IsIntAt (i ∷ js) → All (Contains table) (map (atom_of ts) (neighbours_from (sort_of ds ts) i js)) → All AreNumbered (neighbours i js)
  neighbours_numbered i [] ints h = All-nil AreNumbered
  neighbours_numbered i (j ∷ js) ints h =
      let first = by_sort (sort_of ds ts i) i j in
      let rest = neighbours_from (sort_of ds ts) j js in
      let all : All (Contains table) (map (atom_of ts) first ++ map (atom_of ts) rest) = subst (All (Contains table)) (map-append (atom_of ts) first rest) h in
      All-cons AreNumbered (pair i j) (neighbours j js)
      (pair_numbered (sort_of ds ts i) i j (All-head IsIntAt i (j ∷ js) ints) (All-left (Contains table) (map (atom_of ts) first) (map (atom_of ts) rest) all))
      (neighbours_numbered j js (All-tail IsIntAt i (j ∷ js) ints) (All-right (Contains table) (map (atom_of ts) first) (map (atom_of ts) rest) all))

  pairs_numbered : (i : ℕ) (js : List ℕ) → All IsIntAt (i ∷ js) → All (Contains table) (map (atom_of ts) (of_equal (sort_of ds ts) (i ∷ js))) → All AreNumbered (neighbours i js)
  pairs_numbered i [] ints h = All-nil AreNumbered
  pairs_numbered i (j ∷ []) ints h =
      All-cons AreNumbered (pair i j) []
      (pair_numbered (Some Ints) i j refl (subst (λ (r : Option Sort). All (Contains table) (map (atom_of ts) (alone_by_sort r i j))) (All-head IsIntAt i (j ∷ []) ints) h)) (All-nil AreNumbered)
  pairs_numbered i (j ∷ k ∷ ks) ints h = neighbours_numbered i (j ∷ k ∷ ks) ints h

  -- what the clauses of an equality of Ints say
  pairs_told : (p : ℕ) (qs : List Pair) → All (IsMadeTrue log) (flat_map (tie ts table true) qs ++ comparison_clauses Equal (truth_number table p) (map (same_number table) qs)) → IsToldTerm p → All AreNumbered qs
      → All IsHeldPair qs
  pairs_told p qs all h known =
      let last : List (List Signed) = comparison_clauses Equal (truth_number table p) (map (same_number table) qs) in
      let equal : All (λ (q : Pair). Contains log (yes (same_number table q))) qs =
      All-unmap (λ k. Contains log (yes k)) (same_number table) qs (joined_told log consistent (truth_number table p) (map (same_number table) qs) (All-right (IsMadeTrue log) (flat_map (tie ts table true) qs) last all) h) in
      let tied : All (λ (q : Pair). All (IsMadeTrue log) (int_tie ts table q)) qs = All-unflat (IsMadeTrue log) (tie ts table true) qs (All-left (IsMadeTrue log) (flat_map (tie ts table true) qs) last all) in
      λ k d l. one (get_or qs k d) (tied k d l) (equal k d l) (known k d l)
    where
      one : (q : Pair) → All (IsMadeTrue log) (int_tie ts table q) → Contains log (yes (same_number table q)) → AreNumbered q → IsHeldPair q
      one q made_tie same in_table =
          let below : ℕ = bound_number ts table (order NotAbove q.left q.right) in
          let above : ℕ = bound_number ts table (order NotAbove q.right q.left) in
          let two : All (λ n. Contains log (yes n)) (below ∷ above ∷ []) =
          joined_told log consistent (same_number table q) (below ∷ above ∷ [])
          (All-right (IsMadeTrue log) (flat_map (of_bound ts table) (orders_of_pair q)) (equal_clauses (same_number table q) below above) made_tie) same in (
            record { numbered = in_table.0; told = All-head (λ n. Contains log (yes n)) below (above ∷ []) two },
            record { numbered = in_table.1; told = All-head (λ n. Contains log (yes n)) above [] (All-tail (λ n. Contains log (yes n)) below (above ∷ []) two) },
          )

  module _ (p i : ℕ) (is : List ℕ) (m : IsMarked marks p) (n : IsNode ts p (Theory Equal) (i ∷ is)) (h : IsToldTerm p) where
    -- all have the sort of the first
    first_sort : All (λ j. sort_at sorts j ≡ sort_at sorts i) is
    first_sort =
        listed_all (sort_at sorts i) is
        (if_so_true (all_of (sort_at sorts i) (map (sort_at sorts) is)) Truths (sort_at sorts p)
        (asked ds ts sorts Equal p (i ∷ is) n.tree (sort_there p m) (All-weaker (IsMarked marks) (HasSort ds ts sorts) sort_there (i ∷ is) (marked_arguments p Equal (i ∷ is) m n)))).0

    each_sort : All (λ j. tree_sort ds (tree_at ts j) ≡ Some (sort_at sorts i)) (i ∷ is)
    each_sort =
        let marked : All (IsMarked marks) (i ∷ is) = marked_arguments p Equal (i ∷ is) m n in
        let listed : All (λ j. sort_at sorts j ≡ sort_at sorts i) (i ∷ is) = All-cons (λ j. sort_at sorts j ≡ sort_at sorts i) i is refl first_sort in
        λ k d l. sort_there (get_or (i ∷ is) k d) (marked k d l) ∙ ap Some (listed k d l)

    not_distinct : IsAssertedDistinct s p (Theory Equal) (i ∷ is) → ⊥
    not_distinct d = (let e : Theory Equal ≡ Theory Distinct = d.operator in cc)

    no_ints : (r : Sort) → sort_at sorts i ≡ r → is_int (Some r) ≡ false → All IsHeld (comparison_atoms ts ds (Theory Equal) (pick ts (i ∷ is)))
    no_ints r e other =
        others_held i is
        (All-weaker (λ j. tree_sort ds (tree_at ts j) ≡ Some (sort_at sorts i)) IsNoInt (λ j there. ap is_int (there ∙ ap Some e) ∙ other) (i ∷ is) each_sort)

    of_ints : sort_at sorts i ≡ Ints → All IsHeld (comparison_atoms ts ds (Theory Equal) (pick ts (i ∷ is)))
    of_ints e =
        let all : All (IsMadeTrue log) (equality_part ts table true Equal p (i ∷ is)) =
        subst (λ (r : Sort). All (IsMadeTrue log) (clauses_by_sort r (length (i ∷ is)) (λ int. equality_part ts table int Equal p (i ∷ is)))) e (others_made p Equal (i ∷ is) m n (no_bools p i is e) not_distinct) in
        let ints : All IsIntAt (i ∷ is) = All-weaker (λ j. tree_sort ds (tree_at ts j) ≡ Some (sort_at sorts i)) IsIntAt (λ j there. there ∙ ap Some e) (i ∷ is) each_sort in
        ints_held i is (pairs_told p (neighbours i is) all h (pairs_numbered i is ints ((numbers s marks table atoms p Equal (i ∷ is) m n).equality refl)))

    equality_told : All IsHeld (comparison_atoms ts ds (Theory Equal) (pick ts (i ∷ is)))
    equality_told = by (sort_at sorts i) refl
      where
        by : (r : Sort) → sort_at sorts i ≡ r → All IsHeld (comparison_atoms ts ds (Theory Equal) (pick ts (i ∷ is)))
        by Truths e = no_ints Truths e refl
        by Ints e = of_ints e
        by (Free a) e = no_ints (Free a) e refl

  -- ---- what a true term says

  different : (o : Operator) (p : ℕ) (is : List ℕ) → (Theory o ≡ Theory Distinct → ⊥) → IsAssertedDistinct s p (Theory o) is → ⊥
  different o p is other d = other d.operator

  said_by : (p : ℕ) (o : Operator) (is : List ℕ) → IsMarked marks p → IsNode ts p (Theory o) is → IsToldTerm p → All IsHeld (said_atoms ts ds (node (Theory o) (pick ts is)))
  said_by p IsAtMost [] m n h = All-nil IsHeld
  said_by p IsAtMost (i ∷ is) m n h = orders_told p IsAtMost i is m n h refl refl refl (different IsAtMost p (i ∷ is) (λ e. cc))
  said_by p Less [] m n h = All-nil IsHeld
  said_by p Less (i ∷ is) m n h = orders_told p Less i is m n h refl refl refl (different Less p (i ∷ is) (λ e. cc))
  said_by p AtLeast [] m n h = All-nil IsHeld
  said_by p AtLeast (i ∷ is) m n h = orders_told p AtLeast i is m n h refl refl refl (different AtLeast p (i ∷ is) (λ e. cc))
  said_by p Greater [] m n h = All-nil IsHeld
  said_by p Greater (i ∷ is) m n h = orders_told p Greater i is m n h refl refl refl (different Greater p (i ∷ is) (λ e. cc))
  said_by p Equal [] m n h = All-nil IsHeld
  said_by p Equal (i ∷ is) m n h = equality_told p i is m n h
  said_by p o is m n h = All-nil IsHeld

  pub said_held : (t : Tree) → IsTrueTerm t → All IsHeld (said_atoms ts ds t)
  said_held (node (Theory o) us) h =
      let inside : h.place < length ts = within s marks law parts atoms.size h.place h.marked in
      let args : Picked ts us = arguments_at ts law.in_order h.place (Theory o) us inside h.tree in
      let n : IsNode ts h.place (Theory o) args.places = record { within = inside; tree = h.tree ∙ ap (node (Theory o)) (sym args.are); arguments = args.within } in
      subst (λ vs. All IsHeld (said_atoms ts ds (node (Theory o) vs))) args.are (said_by h.place o args.places h.marked n h.told)
  said_held (node g us) h = All-nil IsHeld
