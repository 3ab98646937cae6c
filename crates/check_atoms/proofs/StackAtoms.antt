-- The numbered atoms are the stack's, or compare what a wide `distinct` does.
use Rattle.std.proofs.Common.{◌≡◌, ◌≢◌, ◌⊎◌, inl, inr, ℕ, ◌<◌, Bool, true, false, List, [], ◌∷◌, ◌++◌, Some, map, length, get_or, All, Contains, subst, sym, ap, ap₂, ◌∙◌, refl, arith, flat_map}
use Rattle.std.specs.Prelude.{Option, None, if◌then◌else◌}
use Rattle.std.proofs.lemmas.List.Elements.{All-nil, All-cons, All-append, All-weaker, All-contains, All-contains_itself, Contains-get_or, Contains-append_left, Contains-append_right, Contains-append_cases, Contains-push_cases}
use Rattle.smt_meaning.specs.declared.values.Sort.{Sort}
use Rattle.smt_meaning.specs.declared.values.Sort.TheVariants.{Bool as Truths, Int as Ints, Free}
use Rattle.smt_meaning.specs.declared.terms.Operator.TheVariants.{Distinct}
use Rattle.smt_meaning.specs.declared.terms.Head.{Head}
use Rattle.smt_meaning.specs.declared.terms.Head.TheVariants.{Theory}
use Rattle.smt_meaning.specs.declared.clauses.Atom.{Atom}
use Rattle.smt_meaning.specs.declared.clauses.Atom.TheVariants.{Truth as TruthAtom, Same as SameAtom}
use Rattle.smt_meaning.specs.Declaration.{Declaration}
use Rattle.smt_meaning.specs.Term.{Tree, Trees, node, none, more, tree_at}
use Rattle.smt_meaning.specs.TreeShape.{place_of}
use Rattle.smt_meaning.specs.Nodes.{pick}
use Rattle.smt_meaning.specs.Parts.{IsPart, IsPartOfOne, IsArgument}
use Rattle.smt_meaning.specs.Signature.{tree_sort, is_bool, is_int}
use Rattle.smt_meaning.specs.Stack.{signature_of, assertions_of}
use Rattle.smt_meaning.specs.StackCommand.{Stack}
use Rattle.smt_meaning.specs.CheckAtoms.{IsPartOfStack, ComparesParts}
use Rattle.smt_meaning.specs.Atoms.{at_most_atom, pair_atoms, comparison_atoms, is_wide, early_atoms, truth_atom, atoms_of, atoms_of_all, stack_atoms, stack_atoms_are}
use Rattle.term_store.specs.Terms.{AreDifferent, tree_with}
use Rattle.term_store.proofs.PlaceLemmas.{place_of-is}
use Rattle.scope_stack.specs.Shown.{IsLawful}
use Rattle.check_atoms.specs.Parts.{IsMarked}
use Rattle.check_atoms.specs.Marks.{AreStackParts}
use Rattle.check_atoms.proofs.Marking.{below, argument_of_stack}
use Rattle.check_atoms.proofs.Sorting.{distinct_sort}
use Rattle.check_atoms.proofs.Taking.{its_sort}
use Rattle.check_atoms.proofs.WideDistinct.{many_are_wide, wide_is_distinct, early_unless_wide, none_if_wide, of_two}
use Rattle.check_atoms.proofs.StackAtomsPlaces.{Picked, picked}
use Rattle.bound_clauses.specs.Laws.{OrdersAreComparisons}
use Rattle.pair_bounds.specs.Rows.{RowsAreAtoms}
use Rattle.check_atoms.specs.PartAtoms.{atom_of, by_sort, alone_by_sort, truth_by_sort, compared_by_head, sort_of}
use Rattle.smt_laws.specs.Rows.{place_divisor}
use Rattle.check_atoms.specs.OfStack.{IsNode, part_atoms, IsAtomOfPart, AreCheckAtoms}
use Rattle.check_atoms.specs.Laws.{IsSameOfNoInts, StackAtomsAreNumbered}
use Rattle.check_atoms.proofs.Related.{IsKept, head_related, part_related}

-- ---- a part's own atoms, and those of a term

abbrev own : List Tree → List Declaration → Tree → List Atom
own ts ds (node h us) = truth_atom ts ds (node h us) ++ early_atoms ts ds h us

module _ (ts : List Tree) (ds : List Declaration) (a : Atom) where
  mutual
    up : (u t : Tree) → IsPart u t → Contains (own ts ds u) a → Contains (atoms_of ts ds t) a
    up u (node h us) (inl e) c = Contains-append_right (atoms_of_all ts ds us) (own ts ds (node h us)) a (subst (λ t. Contains (own ts ds t) a) e c)
    up u (node h us) (inr q) c = Contains-append_left (atoms_of_all ts ds us) (own ts ds (node h us)) a (up_some u us q c)

    up_some : (u : Tree) (us : Trees) → IsPartOfOne u us → Contains (own ts ds u) a → Contains (atoms_of_all ts ds us) a
    up_some u none q c = absurd q
    up_some u (more t us) (inl q) c = Contains-append_left (atoms_of ts ds t) (atoms_of_all ts ds us) a (up u t q c)
    up_some u (more t us) (inr q) c = Contains-append_right (atoms_of ts ds t) (atoms_of_all ts ds us) a (up_some u us q c)

  mutual
    down : (t : Tree) → Contains (atoms_of ts ds t) a → (u : Tree) × IsPart u t × Contains (own ts ds u) a
    down (node h us) c = elim (Contains-append_cases (atoms_of_all ts ds us) (own ts ds (node h us)) a c) [
      | inl some ↦ let r = down_some us some in (r.0, inr r.1, r.2)
      | inr here ↦ (node h us, inl refl, here)
    ]

    down_some : (us : Trees) → Contains (atoms_of_all ts ds us) a → (u : Tree) × IsPartOfOne u us × Contains (own ts ds u) a
    down_some none c = absurd (omega (arith, c.1))
    down_some (more t us) c = elim (Contains-append_cases (atoms_of ts ds t) (atoms_of_all ts ds us) a c) [
      | inl first ↦ let r = down t first in (r.0, inl r.1, r.2)
      | inr rest ↦ let r = down_some us rest in (r.0, inr r.1, r.2)
    ]

only_one : {X : Type 0} (y x : X) → Contains (y ∷ []) x → y ≡ x
only_one y x c = elim (Contains-push_cases [] y x c) [ inl nothing ↦ absurd (omega (arith, nothing.1)) | inr e ↦ e ]

into_flat : {X A : Type 0} (f : X → List A) (xs : List X) (x : X) (a : A) → Contains xs x → Contains (f x) a → Contains (flat_map f xs) a
into_flat f [] x a c d = absurd (omega (arith, c.1))
into_flat f (y ∷ xs) x a c d = elim (Contains-append_cases (y ∷ []) xs x c) [
  | inl one ↦ Contains-append_left (f y) (flat_map f xs) a (subst (λ z. Contains (f z) a) (sym (only_one y x one)) d)
  | inr later ↦ Contains-append_right (f y) (flat_map f xs) a (into_flat f xs x a later d)
]

from_flat : {X A : Type 0} (f : X → List A) (xs : List X) (a : A) → Contains (flat_map f xs) a → (x : X) × Contains xs x × Contains (f x) a
from_flat f [] a c = absurd (omega (arith, c.1))
from_flat f (y ∷ xs) a c = elim (Contains-append_cases (f y) (flat_map f xs) a c) [
  | inl first ↦ (y, Contains-append_left (y ∷ []) xs y (0, omega arith, refl), first)
  | inr rest ↦ let r = from_flat f xs a rest in (r.0, Contains-append_right (y ∷ []) xs r.0 r.1, r.2)
]

-- ---- of a stack

module _ (s : Stack) (marks : List Bool) (atoms : List Atom) (lawful : IsLawful s) (parts : AreStackParts s marks) (are : AreCheckAtoms s marks atoms) (compares : OrdersAreComparisons) (rows : RowsAreAtoms) where
  abbrev ts : List Tree
  ts = s.trees

  abbrev ds : List Declaration
  ds = signature_of s.frames

  abbrev Inside : ℕ → Type 0
  Inside i = i < length ts

  different : AreDifferent ts
  different j k less within e = let same : j ≡ k = lawful.in_order.different j k (omega (arith, less, within)) within e in omega (arith, same, less)

  pub again : (p : ℕ) → Inside p → place_of (tree_at ts p) ts ≡ p
  again p h = place_of-is (tree_at ts p) ts p different h refl

  -- what the definition says of two terms, by their places
  abbrev stated : Option Sort → ℕ → ℕ → List Atom
  stated r i j = SameAtom i j ∷ (if is_int r then at_most_atom ts (tree_at ts i) (tree_at ts j) ∷ at_most_atom ts (tree_at ts j) (tree_at ts i) ∷ [] else [])

  pair_stated : (i j : ℕ) → Inside i → Inside j → stated (sort_of ds ts i) i j ≡ pair_atoms ts ds (tree_at ts i) (tree_at ts j)
  pair_stated i j h g =
      ap₂ (λ p q. SameAtom p q ∷ (if is_int (sort_of ds ts i) then at_most_atom ts (tree_at ts i) (tree_at ts j) ∷ at_most_atom ts (tree_at ts j) (tree_at ts i) ∷ [] else [])) (sym (again i h)) (sym (again j g))

  truth_stated : (r : Option Sort) (p : ℕ) → map (atom_of ts) (truth_by_sort r p) ≡ (if is_bool r then TruthAtom p ∷ [] else [])
  truth_stated None p = refl
  truth_stated (Some Truths) p = refl
  truth_stated (Some Ints) p = refl
  truth_stated (Some (Free n)) p = refl

  truths_are : (p : ℕ) → Inside p → map (atom_of ts) (truth_by_sort (sort_of ds ts p) p) ≡ truth_atom ts ds (tree_at ts p)
  truths_are p h = truth_stated (sort_of ds ts p) p ∙ ap (λ q. if is_bool (sort_of ds ts p) then TruthAtom q ∷ [] else []) (sym (again p h))

  in_stack : (u : Tree) (a : Atom) → IsPartOfStack s.frames u → Contains (own ts ds u) a → Contains (stack_atoms ts s.frames) a
  in_stack u a part c =
      subst (λ xs. Contains xs a) (sym (stack_atoms_are ts s.frames))
      (into_flat (atoms_of ts ds) (assertions_of s.frames) part.assertion a part.asserted (up ts ds a u part.assertion part.part c))

  -- ---- each numbered one is the stack's

  abbrev Holds : List Atom → List Atom → Type 0
  Holds xs ys = All (Contains ys) xs

  pair_held : (r : Option Sort) (i j : ℕ) → Holds (map (atom_of ts) (by_sort r i j)) (stated r i j)
  pair_held None i j = All-contains_itself (stated None i j)
  pair_held (Some Truths) i j = All-nil (Contains (stated (Some Truths) i j))
  pair_held (Some Ints) i j = All-contains_itself (stated (Some Ints) i j)
  pair_held (Some (Free n)) i j = All-contains_itself (stated (Some (Free n)) i j)

  alone_held : (r : Option Sort) (i j : ℕ) → Holds (map (atom_of ts) (alone_by_sort r i j)) (stated r i j)
  alone_held None i j = pair_held None i j
  alone_held (Some Truths) i j = All-nil (Contains (stated (Some Truths) i j))
  alone_held (Some Ints) i j = pair_held (Some Ints) i j
  alone_held (Some (Free n)) i j = All-nil (Contains (stated (Some (Free n)) i j))

  held : IsKept ts ds Holds Inside
  held = record {
    same = All-contains_itself;
    append = λ xs ys us vs a b.
        All-append (Contains (us ++ vs)) xs ys (All-weaker (Contains us) (Contains (us ++ vs)) (λ x c. Contains-append_left us vs x c) xs a)
        (All-weaker (Contains vs) (Contains (us ++ vs)) (λ x c. Contains-append_right us vs x c) ys b);
    pairs = λ i j h g. subst (Holds (map (atom_of ts) (by_sort (sort_of ds ts i) i j))) (pair_stated i j h g) (pair_held (sort_of ds ts i) i j);
    single = λ i j h g. subst (Holds (map (atom_of ts) (alone_by_sort (sort_of ds ts i) i j))) (pair_stated i j h g) (alone_held (sort_of ds ts i) i j);
  }

  -- what a wide `distinct` compares are parts of one sort
  wide_compares : (p : ℕ) (h : Head) (is : List ℕ) (a : Atom) → IsMarked marks p → IsNode ts p h is → is_wide h (pick ts is) ≡ true → Contains (comparison_atoms ts ds h (pick ts is)) a → ComparesParts ts s.frames a
  wide_compares p h is a m n wide c =
      let here : IsPartOfStack s.frames (tree_with ts h is) = subst (IsPartOfStack s.frames) n.tree (parts.only p m) in
      let is_distinct : h ≡ Theory Distinct = wide_is_distinct h (pick ts is) wide in
      let its = its_sort s (tree_with ts h is) lawful here in
      let one = distinct_sort ds ts is its.0 (subst (λ (k : Head). tree_sort ds (tree_with ts k is) ≡ Some its.0) is_distinct its.1) in
      let two = of_two ts (pair_atoms ts ds) a is (subst (λ (k : Head). Contains (comparison_atoms ts ds k (pick ts is)) a) is_distinct c) in
      let sort_there : (i : ℕ) → Contains is i → tree_sort ds (tree_at ts i) ≡ Some one.sort = λ i k. All-contains (λ j. tree_sort ds (tree_at ts j) ≡ Some one.sort) is i one.each k in
      record {
        left = tree_at ts two.left;
        right = tree_at ts two.right;
        left_part = argument_of_stack s.frames ts h is two.left here two.left_in;
        right_part = argument_of_stack s.frames ts h is two.right here two.right_in;
        one_sort = sort_there two.left two.left_in ∙ sym (sort_there two.right two.right_in);
        among = two.among;
      }

  -- the stack has it, or it compares parts
  abbrev pub IsOwn : Atom → Type 0
  IsOwn a = Contains (stack_atoms ts s.frames) a ⊎ ComparesParts ts s.frames a

  own_there : (p : ℕ) (h : Head) (is : List ℕ) (a : Atom) → IsMarked marks p → tree_at ts p ≡ node h (pick ts is) → Contains (own ts ds (node h (pick ts is))) a → Contains (stack_atoms ts s.frames) a
  own_there p h is a m e c = in_stack (node h (pick ts is)) a (subst (IsPartOfStack s.frames) e (parts.only p m)) c

  compared_of_stack : (p : ℕ) (h : Head) (is : List ℕ) (a : Atom) → IsMarked marks p → IsNode ts p h is → (w : Bool) → is_wide h (pick ts is) ≡ w → Contains (comparison_atoms ts ds h (pick ts is)) a → IsOwn a
  compared_of_stack p h is a m n true e c = inr (wide_compares p h is a m n e c)
  compared_of_stack p h is a m n false e c =
      inl (own_there p h is a m n.tree (Contains-append_right (truth_atom ts ds (node h (pick ts is))) (early_atoms ts ds h (pick ts is)) a (subst (λ xs. Contains xs a) (sym (early_unless_wide ts ds h (pick ts is) e)) c)))

  pub of_stack : (a : Atom) → IsAtomOfPart s marks a → IsOwn a
  of_stack a o =
      let us = pick ts o.arguments in
      let tree : tree_at ts o.place ≡ node o.head us = o.term.tree in
      let all = part_related ts ds Holds Inside held compares rows o.head o.place o.arguments o.term.within o.term.arguments tree
      (subst (Holds (map (atom_of ts) (truth_by_sort (sort_of ds ts o.place) o.place))) (truths_are o.place o.term.within) (All-contains_itself (map (atom_of ts) (truth_by_sort (sort_of ds ts o.place) o.place)))) in
      let here = All-contains (Contains (truth_atom ts ds (tree_at ts o.place) ++ comparison_atoms ts ds o.head us)) (map (atom_of ts) (part_atoms s o.place o.head o.arguments)) a all o.among in
      elim (Contains-append_cases (truth_atom ts ds (tree_at ts o.place)) (comparison_atoms ts ds o.head us) a here) [
        | inl truth ↦
            inl (own_there o.place o.head o.arguments a o.marked tree
            (Contains-append_left (truth_atom ts ds (node o.head us)) (early_atoms ts ds o.head us) a (subst (λ t. Contains (truth_atom ts ds t) a) tree truth)))
        | inr compared ↦ compared_of_stack o.place o.head o.arguments a o.marked o.term (is_wide o.head us) refl compared
      ]

  -- ---- each of the stack's is numbered, but for equalities of terms of a sort that isn't Int

  abbrev Numbered : List Atom → Atom → Type 0
  Numbered xs a = Contains xs a ⊎ IsSameOfNoInts s a

  abbrev Gives : List Atom → List Atom → Type 0
  Gives xs ys = All (Numbered xs) ys

  gives_itself : (xs : List Atom) → Gives xs xs
  gives_itself xs = All-weaker (Contains xs) (Numbered xs) (λ a c. inl c) xs (All-contains_itself xs)

  more_numbered : (xs zs : List Atom) (a : Atom) → ((b : Atom) → Contains xs b → Contains zs b) → Numbered xs a → Numbered zs a
  more_numbered xs zs a f (inl c) = inl (f a c)
  more_numbered xs zs a f (inr b) = inr b

  left_out : (i j : ℕ) (r : Sort) → tree_sort ds (tree_at ts i) ≡ Some r → r ≢ Ints → Gives [] (SameAtom i j ∷ [])
  left_out i j r e other = All-cons (Numbered []) (SameAtom i j) [] (inr (record { left = i; right = j; sort = r; atom = refl; has_sort = e; no_int = other })) (All-nil (Numbered []))

  no_truths : Truths ≢ Ints
  no_truths e = cc

  no_free : (n : ℕ) → Free n ≢ Ints
  no_free n e = cc

  pair_given : (r : Option Sort) (i j : ℕ) → tree_sort ds (tree_at ts i) ≡ r → Gives (map (atom_of ts) (by_sort r i j)) (stated r i j)
  pair_given None i j e = gives_itself (stated None i j)
  pair_given (Some Truths) i j e = left_out i j Truths e no_truths
  pair_given (Some Ints) i j e = gives_itself (stated (Some Ints) i j)
  pair_given (Some (Free n)) i j e = gives_itself (stated (Some (Free n)) i j)

  alone_given : (r : Option Sort) (i j : ℕ) → tree_sort ds (tree_at ts i) ≡ r → Gives (map (atom_of ts) (alone_by_sort r i j)) (stated r i j)
  alone_given None i j e = pair_given None i j e
  alone_given (Some Truths) i j e = left_out i j Truths e no_truths
  alone_given (Some Ints) i j e = pair_given (Some Ints) i j e
  alone_given (Some (Free n)) i j e = left_out i j (Free n) e (no_free n)

  given : IsKept ts ds Gives Inside
  given = record {
    same = gives_itself;
    append = λ xs ys us vs a b.
        All-append (Numbered (xs ++ ys)) us vs (All-weaker (Numbered xs) (Numbered (xs ++ ys)) (λ x c. more_numbered xs (xs ++ ys) x (λ y d. Contains-append_left xs ys y d) c) us a)
        (All-weaker (Numbered ys) (Numbered (xs ++ ys)) (λ x c. more_numbered ys (xs ++ ys) x (λ y d. Contains-append_right xs ys y d) c) vs b);
    pairs = λ i j h g. subst (Gives (map (atom_of ts) (by_sort (sort_of ds ts i) i j))) (pair_stated i j h g) (pair_given (sort_of ds ts i) i j refl);
    single = λ i j h g. subst (Gives (map (atom_of ts) (alone_by_sort (sort_of ds ts i) i j))) (pair_stated i j h g) (alone_given (sort_of ds ts i) i j refl);
  }

  truth_numbered : (p : ℕ) (h : Head) (is : List ℕ) (a : Atom) → IsMarked marks p → IsNode ts p h is → Contains (truth_atom ts ds (node h (pick ts is))) a → Contains atoms a
  truth_numbered p h is a m n c =
      let all : All (Contains atoms) (truth_atom ts ds (tree_at ts p)) = subst (All (Contains atoms)) (truths_are p n.within) (are.each p h is m n).truth in
      All-contains (Contains atoms) (truth_atom ts ds (node h (pick ts is))) a (subst (λ t. All (Contains atoms) (truth_atom ts ds t)) n.tree all) c

  -- of an asserted wide `distinct` the stack has no such atom
  compared_numbered : (p : ℕ) (h : Head) (is : List ℕ) (a : Atom) → IsMarked marks p → IsNode ts p h is → is_wide h (pick ts is) ≡ false → Contains (comparison_atoms ts ds h (pick ts is)) a → Numbered atoms a
  compared_numbered p h is a m n narrow c = elim (are.each p h is m n).compared [
    | inl alone ↦ absurd (let both : true ≡ false = sym (many_are_wide ts h is alone.operator alone.wide) ∙ narrow in cc)
    | inr all ↦
        let xs = map (atom_of ts) (compared_by_head (sort_of ds ts) (place_divisor ts is) h p is) in
        more_numbered xs atoms a (λ b d. All-contains (Contains atoms) xs b all d)
        (All-contains (Numbered xs) (comparison_atoms ts ds h (pick ts is)) a (head_related ts ds Gives Inside given compares rows h p is n.within n.arguments n.tree) c)
  ]

  early_numbered : (p : ℕ) (h : Head) (is : List ℕ) (a : Atom) → IsMarked marks p → IsNode ts p h is → (w : Bool) → is_wide h (pick ts is) ≡ w → Contains (early_atoms ts ds h (pick ts is)) a → Numbered atoms a
  early_numbered p h is a m n true e c = absurd (let k : Contains [] a = subst (λ xs. Contains xs a) (none_if_wide ts ds h (pick ts is) e) c in omega (arith, k.1))
  early_numbered p h is a m n false e c = compared_numbered p h is a m n e (subst (λ xs. Contains xs a) (early_unless_wide ts ds h (pick ts is) e) c)

  node_numbered : (p : ℕ) (h : Head) (is : List ℕ) (a : Atom) → IsMarked marks p → IsNode ts p h is → Contains (own ts ds (node h (pick ts is))) a → Numbered atoms a
  node_numbered p h is a m n c = elim (Contains-append_cases (truth_atom ts ds (node h (pick ts is))) (early_atoms ts ds h (pick ts is)) a c) [
    | inl truth ↦ inl (truth_numbered p h is a m n truth)
    | inr early ↦ early_numbered p h is a m n (is_wide h (pick ts is)) refl early
  ]

  tree_numbered : (u : Tree) (a : Atom) → IsPartOfStack s.frames u → Contains (own ts ds u) a → Numbered atoms a
  tree_numbered (node h us) a part c =
      let at = parts.each (node h us) part in
      let p = at.0 in
      let short : p < length marks = below marks p at.1 in
      let within : p < length ts = omega (arith, short, are.size) in
      let args : Picked ts us =
      picked ts us (λ v q. (let b = lawful.in_order.after_arguments p v within (subst (IsArgument v) (sym at.2) q) in (b.0, b.2, b.3))) in
      let tree : tree_at ts p ≡ node h (pick ts args.places) = at.2 ∙ ap (node h) (sym args.are) in
      node_numbered p h args.places a at.1 (record { within = within; tree = tree; arguments = args.within }) (subst (λ vs. Contains (own ts ds (node h vs)) a) (sym args.are) c)

  pub numbered : (a : Atom) → Contains (stack_atoms ts s.frames) a → Numbered atoms a
  numbered a c =
      let f = from_flat (atoms_of ts ds) (assertions_of s.frames) a (subst (λ xs. Contains xs a) (stack_atoms_are ts s.frames) c) in
      let d = down ts ds a f.0 f.2 in
      tree_numbered d.0 a (record { assertion = f.0; asserted = f.1; part = d.1 }) d.2

pub all_numbered : OrdersAreComparisons → RowsAreAtoms → StackAtomsAreNumbered
all_numbered compares rows s marks atoms lawful parts are = λ k d l.
    numbered s marks atoms lawful parts are compares rows (get_or (stack_atoms s.trees s.frames) k d) (Contains-get_or (stack_atoms s.trees s.frames) k d l)
