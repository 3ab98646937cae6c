-- An equality among the atoms of a check compares two terms of one sort.
use Rattle.std.proofs.Common.{◌≡◌, ◌∙◌, ℕ, ◌<◌, Bool, true, false, ◌&&◌, List, [], ◌∷◌, ◌++◌, map, flat_map, length, Contains, Some, refl, sym, ap, subst, inl, inr, arith}
use Rattle.std.specs.Prelude.{ℤ, if◌then◌else◌}
use Rattle.std.proofs.lemmas.List.Elements.{Contains-append_right, Contains-append_cases, Contains-push_cases}
use Rattle.fraction128.specs.declared.Line.{Line}
use Rattle.smt_meaning.specs.declared.values.Sort.{Sort}
use Rattle.smt_meaning.specs.declared.values.Sort.TheVariants.{Bool as Truths}
use Rattle.smt_meaning.specs.declared.terms.Operator.TheVariants.{Equal, Distinct, Ite, AtMost as IsAtMost, Less, AtLeast, Greater, Divide, Modulo, Absolute, Divisible}
use Rattle.smt_meaning.specs.declared.terms.Head.{Head}
use Rattle.smt_meaning.specs.declared.terms.Head.TheVariants.{Theory}
use Rattle.smt_meaning.specs.declared.clauses.Summand.{Summand}
use Rattle.smt_meaning.specs.declared.clauses.Atom.{Atom}
use Rattle.smt_meaning.specs.declared.clauses.Atom.TheVariants.{Truth, AtMost, Same}
use Rattle.smt_meaning.specs.Declaration.{Declaration}
use Rattle.smt_meaning.specs.Term.{Tree, Trees, node, none, more, tree_at}
use Rattle.smt_meaning.specs.TreeShape.{place_of}
use Rattle.smt_meaning.specs.Parts.{IsPart, IsPartOfOne}
use Rattle.smt_meaning.specs.Signature.{tree_sort, tree_sorts, operator_sort, ite_sort, if_so, all_of, all_the_same, sort_eq, stands_with, is_int, is_bool}
use Rattle.smt_meaning.specs.Division.{Limit, Row, rows_at}
use Rattle.smt_meaning.specs.Linear.{Form, linear_form}
use Rattle.smt_meaning.specs.Atoms.{normal_bound, at_most_atom, below_atom, limit_atom, row_atoms, pair_atoms, of_neighbours_from, of_neighbours, of_first_with, of_pairs, of_branches, comparison_atoms, is_wide, early_atoms, truth_atom, atoms_of, atoms_of_all, stack_atoms, stack_atoms_are}
use Rattle.smt_meaning.specs.Stack.{Frame, signature_of, assertions_of}
use Rattle.smt_meaning.specs.StackCommand.{Stack}
use Rattle.smt_meaning.specs.CheckAtoms.{IsPartOfStack, ComparesParts, IsFirstAtom, WithBranch, WithBranches}
use Rattle.smt_laws.proofs.Both.{and_left, and_right}
use Rattle.smt_laws.specs.Flat.{flat, SaysTheSame, FlatSaysTheSame}
use Rattle.term_store.proofs.PlaceLemmas.{place_of-is}
use Rattle.scope_stack.specs.Shown.{IsLawful}
use Rattle.scope_stack.proofs.SortLemmas.{HasArguments, arguments_of, HasFirst, first_of, stands_so, if_so_is}
use Rattle.check_atoms.specs.Marks.{AreStackParts}
use Rattle.check_atoms.proofs.Marking.{below, part_of_part, assertion_of_stack}
use Rattle.check_atoms.proofs.Sorting.{sort_is, if_so_true}
use Rattle.check_atoms.proofs.Taking.{its_sort}
use Rattle.theory_combine.specs.Shown.{IsOfCheck}

-- ---- each of some terms

abbrev Each : (Tree → Type 0) → Trees → Type 0
Each P none = Unit {0}
Each P (more t us) = P t × Each P us

each_both : (P Q : Tree → Type 0) (us : Trees) → Each P us → Each Q us → Each (λ t. P t × Q t) us
each_both P Q none a b = tt
each_both P Q (more t us) a b = ((a.0, b.0), each_both P Q us a.1 b.1)

itself : (t : Tree) → IsPart t t
itself (node h us) = inl refl

each_part : (P : Tree → Type 0) (us : Trees) → ((u : Tree) → IsPartOfOne u us → P u) → Each P us
each_part P none f = tt
each_part P (more t us) f = (f t (inl (itself t)), each_part P us (λ u q. f u (inr q)))

arguments_are : (frames : List Frame) (h : Head) (us : Trees) → IsPartOfStack frames (node h us) → Each (IsPartOfStack frames) us
arguments_are frames h us p =
    each_part (IsPartOfStack frames) us (λ u q. record { assertion = p.assertion; asserted = p.asserted; part = part_of_part u (node h us) p.assertion (inr q) p.part })

-- ---- their sorts

module _ (ds : List Declaration) where
  abbrev Has : Sort → Tree → Type 0
  Has r t = tree_sort ds t ≡ Some r

  each_has : (r : Sort) (us : Trees) (ss : List Sort) → tree_sorts ds us ≡ Some ss → all_of r ss ≡ true → Each (Has r) us
  each_has r none ss e a = tt
  each_has r (more t us) ss e a =
      let f : HasFirst ds t us ss = first_of ds t us ss e in
      let b : all_of r (f.first ∷ f.rest) ≡ true = subst (λ xs. all_of r xs ≡ true) f.are a in
      (f.here ∙ ap Some (sym (sort_is r f.first (and_left (sort_eq r f.first) (all_of r f.rest) b))), each_has r us f.rest f.later (and_right (sort_eq r f.first) (all_of r f.rest) b))

  have_one : (us : Trees) (ss : List Sort) → tree_sorts ds us ≡ Some ss → all_the_same ss ≡ true → (r : Sort) × Each (Has r) us
  have_one none ss e a = (Truths, tt)
  have_one (more t us) ss e a =
      let f : HasFirst ds t us ss = first_of ds t us ss e in
      let b : all_of f.first f.rest ≡ true = subst (λ xs. all_the_same xs ≡ true) f.are a in
      (f.first, (f.here, each_has f.first us f.rest f.later b))

  no_more : (ss : List Sort) → tree_sorts ds none ≡ Some ss → ss ≡ []
  no_more ss e = cc

  branches_have : (c u v : Tree) (ss : List Sort) (s : Sort) → tree_sorts ds (more c (more u (more v none))) ≡ Some ss → ite_sort ss ≡ Some s → Has s u × Has s v
  branches_have c u v ss s e made =
      let f : HasFirst ds c (more u (more v none)) ss = first_of ds c (more u (more v none)) ss e in
      let g : HasFirst ds u (more v none) f.rest = first_of ds u (more v none) f.rest f.later in
      let k : HasFirst ds v none g.rest = first_of ds v none g.rest g.later in
      let end : k.rest ≡ [] = no_more k.rest k.later in
      let whole : ss ≡ f.first ∷ g.first ∷ k.first ∷ [] = f.are ∙ ap (λ xs. f.first ∷ xs) (g.are ∙ ap (λ xs. g.first ∷ xs) (k.are ∙ ap (λ xs. k.first ∷ xs) end)) in
      let test : Bool = sort_eq f.first Truths && sort_eq g.first k.first in
      let m : if_so test g.first ≡ Some s = subst (λ xs. ite_sort xs ≡ Some s) whole made in
      let left : g.first ≡ s = if_so_is test g.first s m in
      let right : g.first ≡ k.first = sort_is g.first k.first (and_right (sort_eq f.first Truths) (sort_eq g.first k.first) (if_so_true test g.first s m)) in
      (g.here ∙ ap Some left, k.here ∙ ap Some (sym right ∙ left))

-- ---- an equality among atoms

only_one : (x a : Atom) → Contains (x ∷ []) a → x ≡ a
only_one x a c = elim (Contains-push_cases [] x a c) [ inl nothing ↦ absurd (omega (arith, nothing.1)) | inr e ↦ e ]

module _ (i j : ℕ) where
  abbrev equality : Atom
  equality = Same i j

  no_bound : (sum : List Summand) (k : ℤ) → normal_bound sum k ≡ Same i j → ⊥
  no_bound [] k e = cc
  no_bound (x ∷ xs) k e = cc

  not_in : Contains [] equality → ⊥
  not_in c = omega (arith, c.1)

  not_bound : (sum : List Summand) (k : ℤ) → Contains (normal_bound sum k ∷ []) equality → ⊥
  not_bound sum k c = no_bound sum k (only_one (normal_bound sum k) equality c)

  -- of two plain bounds
  not_two : (sum other : List Summand) (k m : ℤ) → Contains (AtMost sum k ∷ AtMost other m ∷ []) equality → ⊥
  not_two sum other k m c = elim (Contains-append_cases (AtMost sum k ∷ []) (AtMost other m ∷ []) equality c) [
    | inl one ↦ absurd (let e : AtMost sum k ≡ Same i j = only_one (AtMost sum k) equality one in cc)
    | inr two ↦ absurd (let e : AtMost other m ≡ Same i j = only_one (AtMost other m) equality two in cc)
  ]

  not_among_neighbours_from : (f : Tree → Tree → List Atom) → ((s t : Tree) → Contains (f s t) equality → ⊥) → (t : Tree) (us : Trees) → Contains (of_neighbours_from f t us) equality → ⊥
  not_among_neighbours_from f h t none c = not_in c
  not_among_neighbours_from f h t (more u us) c =
      elim (Contains-append_cases (f t u) (of_neighbours_from f u us) equality c) [ inl here ↦ h t u here | inr rest ↦ not_among_neighbours_from f h u us rest ]

  not_among_neighbours : (f : Tree → Tree → List Atom) → ((s t : Tree) → Contains (f s t) equality → ⊥) → (us : Trees) → Contains (of_neighbours f us) equality → ⊥
  not_among_neighbours f h none c = not_in c
  not_among_neighbours f h (more t us) c = not_among_neighbours_from f h t us c

  not_of_limits : (form : Tree → Form) (ls : List (Limit Tree)) → Contains (map (limit_atom form) ls) equality → ⊥
  not_of_limits form [] c = not_in c
  not_of_limits form (l ∷ ls) c =
      elim (Contains-append_cases (limit_atom form l ∷ []) (map (limit_atom form) ls) equality c) [ inl here ↦ not_bound _ _ here | inr rest ↦ not_of_limits form ls rest ]

  not_of_rows : (form : Tree → Form) (rs : List (Row Tree)) → Contains (flat_map (row_atoms form) rs) equality → ⊥
  not_of_rows form [] c = not_in c
  not_of_rows form (r ∷ rs) c =
      elim (Contains-append_cases (row_atoms form r) (flat_map (row_atoms form) rs) equality c) [ inl here ↦ not_of_limits form r.limits here | inr rest ↦ not_of_rows form rs rest ]

  not_truth : (b : Bool) (p : ℕ) → Contains (if b then Truth p ∷ [] else []) equality → ⊥
  not_truth true p c = (let e : Truth p ≡ Same i j = only_one (Truth p) equality c in cc)
  not_truth false p c = not_in c

  -- ---- before any branch

  peeled : (Is : Atom → Type 0) (ls : List Line) → WithBranches Is ls equality → Is equality
  peeled Is [] h = h
  peeled Is (l ∷ ls) h = elim (peeled (WithBranch Is l) ls h) [ inl before ↦ before | inr b ↦ absurd (not_two _ _ _ _ b.among) ]

  -- ---- the stack's

  module _ (ts : List Tree) (frames : List Frame) (sorted : (t : Tree) → IsPartOfStack frames t → (r : Sort) × (tree_sort (signature_of frames) t ≡ Some r)) where
    abbrev ds : List Declaration
    ds = signature_of frames

    abbrev of_pair : Tree → Tree → List Atom
    of_pair = pair_atoms ts ds

    abbrev Part : Tree → Type 0
    Part = IsPartOfStack frames

    abbrev Compares : Type 0
    Compares = ComparesParts ts frames equality

    module _ (r : Sort) where
      abbrev Fits : Tree → Type 0
      Fits t = Part t × Has ds r t

      two : (s t : Tree) → Fits s → Fits t → Contains (of_pair s t) equality → Compares
      two s t p q c = record { left = s; right = t; left_part = p.0; right_part = q.0; one_sort = p.1 ∙ sym q.1; among = c }

      neighbours_from : (t : Tree) (us : Trees) → Fits t → Each Fits us → Contains (of_neighbours_from of_pair t us) equality → Compares
      neighbours_from t none p h c = absurd (not_in c)
      neighbours_from t (more u us) p h c = elim (Contains-append_cases (of_pair t u) (of_neighbours_from of_pair u us) equality c) [ inl here ↦ two t u p h.0 here | inr rest ↦ neighbours_from u us h.0 h.1 rest ]

      neighbours : (us : Trees) → Each Fits us → Contains (of_neighbours of_pair us) equality → Compares
      neighbours none h c = absurd (not_in c)
      neighbours (more t us) h c = neighbours_from t us h.0 h.1 c

      first_with : (t : Tree) (us : Trees) → Fits t → Each Fits us → Contains (of_first_with of_pair t us) equality → Compares
      first_with t none p h c = absurd (not_in c)
      first_with t (more u us) p h c = elim (Contains-append_cases (of_pair t u) (of_first_with of_pair t us) equality c) [ inl here ↦ two t u p h.0 here | inr rest ↦ first_with t us p h.1 rest ]

      pairs : (us : Trees) → Each Fits us → Contains (of_pairs of_pair us) equality → Compares
      pairs none h c = absurd (not_in c)
      pairs (more t us) h c = elim (Contains-append_cases (of_first_with of_pair t us) (of_pairs of_pair us) equality c) [ inl first ↦ first_with t us h.0 h.1 first | inr rest ↦ pairs us h.1 rest ]

    branches : (t : Tree) (us : Trees) (ss : List Sort) (s : Sort) → Part t → Has ds s t → Each Part us → tree_sorts ds us ≡ Some ss → ite_sort ss ≡ Some s → Contains (of_branches of_pair t us) equality → Compares
    branches t none ss s p has h e made c = absurd (not_in c)
    branches t (more x none) ss s p has h e made c = absurd (not_in c)
    branches t (more x (more u none)) ss s p has h e made c = absurd (not_in c)
    branches t (more x (more u (more v none))) ss s p has h e made c =
        let so : Has ds s u × Has ds s v = branches_have ds x u v ss s e made in
        elim (Contains-append_cases (of_pair t u) (of_pair t v) equality c) [ inl first ↦ two s t u (p, has) (h.1.0, so.0) first | inr second ↦ two s t v (p, has) (h.1.1.0, so.1) second ]
    branches t (more x (more u (more v (more y us)))) ss s p has h e made c = absurd (not_in c)

    compared : (h : Head) (us : Trees) (s : Sort) → Part (node h us) → Has ds s (node h us) → (args : HasArguments ds h us s) → Contains (comparison_atoms ts ds h us) equality → Compares
    compared (Theory Equal) us s p has args c =
        let one : (r : Sort) × Each (Has ds r) us =
        have_one ds us args.sorts args.are (if_so_true (all_the_same args.sorts) Truths s (stands_so (stands_with Equal (length args.sorts)) (operator_sort Equal args.sorts) s args.made)) in
        neighbours one.0 us (each_both Part (Has ds one.0) us (arguments_are frames (Theory Equal) us p) one.1) c
    compared (Theory Distinct) us s p has args c =
        let one : (r : Sort) × Each (Has ds r) us =
        have_one ds us args.sorts args.are (if_so_true (all_the_same args.sorts) Truths s (stands_so (stands_with Distinct (length args.sorts)) (operator_sort Distinct args.sorts) s args.made)) in
        pairs one.0 us (each_both Part (Has ds one.0) us (arguments_are frames (Theory Distinct) us p) one.1) c
    compared (Theory Ite) us s p has args c =
        branches (node (Theory Ite) us) us args.sorts s p has (arguments_are frames (Theory Ite) us p) args.are
        (stands_so (stands_with Ite (length args.sorts)) (operator_sort Ite args.sorts) s args.made) c
    compared (Theory IsAtMost) us s p has args c = absurd (not_among_neighbours (λ s t. at_most_atom ts s t ∷ []) (λ s t k. not_bound _ _ k) us c)
    compared (Theory Less) us s p has args c = absurd (not_among_neighbours (λ s t. below_atom ts s t ∷ []) (λ s t k. not_bound _ _ k) us c)
    compared (Theory AtLeast) us s p has args c = absurd (not_among_neighbours (λ s t. at_most_atom ts t s ∷ []) (λ s t k. not_bound _ _ k) us c)
    compared (Theory Greater) us s p has args c = absurd (not_among_neighbours (λ s t. below_atom ts t s ∷ []) (λ s t k. not_bound _ _ k) us c)
    compared (Theory Divide) us s p has args c = absurd (not_of_rows (linear_form ts) (rows_at ts (Theory Divide) us) c)
    compared (Theory Modulo) us s p has args c = absurd (not_of_rows (linear_form ts) (rows_at ts (Theory Modulo) us) c)
    compared (Theory Absolute) us s p has args c = absurd (not_of_rows (linear_form ts) (rows_at ts (Theory Absolute) us) c)
    compared (Theory Divisible) us s p has args c = absurd (not_of_rows (linear_form ts) (rows_at ts (Theory Divisible) us) c)
    compared h us s p has args c = absurd (not_in c)

    early : (h : Head) (us : Trees) → Part (node h us) → (w : Bool) → Contains (if w then [] else comparison_atoms ts ds h us) equality → Compares
    early h us p true c = absurd (not_in c)
    early h us p false c = let so = sorted (node h us) p in compared h us so.0 p so.1 (arguments_of ds h us so.0 so.1) c

    own : (h : Head) (us : Trees) → Part (node h us) → Contains (truth_atom ts ds (node h us) ++ early_atoms ts ds h us) equality → Compares
    own h us p c = elim (Contains-append_cases (truth_atom ts ds (node h us)) (early_atoms ts ds h us) equality c) [
      | inl truth ↦ absurd (not_truth (is_bool (tree_sort ds (node h us))) (place_of (node h us) ts) truth)
      | inr rest ↦ early h us p (is_wide h us) rest
    ]

    mutual
      walk : (t : Tree) → Part t → Contains (atoms_of ts ds t) equality → Compares
      walk (node h us) p c = elim (Contains-append_cases (atoms_of_all ts ds us) (truth_atom ts ds (node h us) ++ early_atoms ts ds h us) equality c) [
        | inl some ↦ walk_all us (arguments_are frames h us p) some
        | inr here ↦ own h us p here
      ]

      walk_all : (us : Trees) → Each Part us → Contains (atoms_of_all ts ds us) equality → Compares
      walk_all none ps c = absurd (not_in c)
      walk_all (more u us) ps c = elim (Contains-append_cases (atoms_of ts ds u) (atoms_of_all ts ds us) equality c) [ inl first ↦ walk u ps.0 first | inr rest ↦ walk_all us ps.1 rest ]

    in_some : (xs : List Tree) → ((t : Tree) → Contains xs t → Part t) → Contains (flat_map (atoms_of ts ds) xs) equality → Compares
    in_some [] part c = absurd (not_in c)
    in_some (t ∷ xs) part c = elim (Contains-append_cases (atoms_of ts ds t) (flat_map (atoms_of ts ds) xs) equality c) [
      | inl first ↦ walk t (part t (0, omega arith, refl)) first
      | inr rest ↦ in_some xs (λ u k. part u (Contains-append_right (t ∷ []) xs u k)) rest
    ]

    of_stack : Contains (stack_atoms ts frames) equality → Compares
    of_stack c = in_some (assertions_of frames) (assertion_of_stack frames) (subst (λ xs. Contains xs equality) (stack_atoms_are ts frames) c)

  -- ---- by the levels as one

  module _ (flat_law : FlatSaysTheSame) (s : Stack) (marks : List Bool) (lawful : IsLawful s) (parts : AreStackParts s marks) (size : length marks ≡ length s.trees) where
    same : SaysTheSame s.frames
    same = flat_law s.frames

    part_there : (t : Tree) → IsPartOfStack (flat s.frames) t → IsPartOfStack s.frames t
    part_there t p = record { assertion = p.assertion; asserted = subst (λ (us : List Tree). Contains us p.assertion) same.assertions p.asserted; part = p.part }

    sorted_there : (t : Tree) → IsPartOfStack (flat s.frames) t → (r : Sort) × (tree_sort (signature_of (flat s.frames)) t ≡ Some r)
    sorted_there t p = let so = its_sort s t lawful (part_there t p) in (so.0, subst (λ (es : List Declaration). tree_sort es t ≡ Some so.0) (sym same.signature) so.1)

    first_compares : IsFirstAtom s.trees (flat s.frames) equality → ComparesParts s.trees (flat s.frames) equality
    first_compares (inl own) = of_stack s.trees (flat s.frames) sorted_there own
    first_compares (inr (inl two)) = two
    first_compares (inr (inr b)) = absurd (not_two _ _ _ _ b.among)

    -- where equality part stands
    stands : (t : Tree) → IsPartOfStack s.frames t → tree_at s.trees (place_of t s.trees) ≡ t
    stands t p =
        let at = parts.each t p in
        let short : at.0 < length marks = below marks at.0 at.1 in
        ap (tree_at s.trees) (place_of-is t s.trees at.0 (λ k l less within e. (let same_place : k ≡ l = lawful.in_order.different k l (omega (arith, less, within)) within e in omega (arith, same_place, less))) (omega (arith, short, size)) at.2) ∙ at.2

    left_is : (x y : ℕ) → Same x y ≡ Same i j → x ≡ i
    left_is x y e = cc

    right_is : (x y : ℕ) → Same x y ≡ Same i j → y ≡ j
    right_is x y e = cc

    not_bounds : (r : Bool) (low high : Atom) → (low ≡ equality → ⊥) → (high ≡ equality → ⊥) → Contains (if r then low ∷ high ∷ [] else []) equality → ⊥
    not_bounds true low high n m c = elim (Contains-append_cases (low ∷ []) (high ∷ []) equality c) [ inl one ↦ n (only_one low equality one) | inr two ↦ m (only_one high equality two) ]
    not_bounds false low high n m c = not_in c

    pair_is : (es : List Declaration) (t u : Tree) → Contains (pair_atoms s.trees es t u) equality → Same (place_of t s.trees) (place_of u s.trees) ≡ equality
    pair_is es t u c = elim (Contains-append_cases (Same (place_of t s.trees) (place_of u s.trees) ∷ []) (if is_int (tree_sort es t) then at_most_atom s.trees t u ∷ at_most_atom s.trees u t ∷ [] else []) equality c) [
      | inl one ↦ only_one (Same (place_of t s.trees) (place_of u s.trees)) equality one
      | inr bounds ↦ absurd (not_bounds (is_int (tree_sort es t)) (at_most_atom s.trees t u) (at_most_atom s.trees u t) (no_bound _ _) (no_bound _ _) bounds)
    ]

    pub one_sort : (branches : List Line) → IsOfCheck s branches (Same i j) → tree_sort (signature_of s.frames) (tree_at s.trees i) ≡ tree_sort (signature_of s.frames) (tree_at s.trees j)
    one_sort branches h =
        let o : ComparesParts s.trees (flat s.frames) equality = first_compares (peeled (IsFirstAtom s.trees (flat s.frames)) branches h) in
        let e = pair_is (signature_of (flat s.frames)) o.left o.right o.among in
        let left : tree_at s.trees i ≡ o.left = ap (tree_at s.trees) (sym (left_is _ _ e)) ∙ stands o.left (part_there o.left o.left_part) in
        let right : tree_at s.trees j ≡ o.right = ap (tree_at s.trees) (sym (right_is _ _ e)) ∙ stands o.right (part_there o.right o.right_part) in
        let here : tree_sort (signature_of s.frames) o.left ≡ tree_sort (signature_of s.frames) o.right =
        subst (λ (es : List Declaration). tree_sort es o.left ≡ tree_sort es o.right) same.signature o.one_sort in
        ap (tree_sort (signature_of s.frames)) left ∙ here ∙ sym (ap (tree_sort (signature_of s.frames)) right)
