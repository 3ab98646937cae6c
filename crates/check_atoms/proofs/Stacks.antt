-- The atoms of one part more, and of all parts.
use Rattle.std.proofs.Common.{◌≡◌, inl, inr, ℕ, ◌<◌, ◌≤◌, ◌+◌, ◌^◌, Bool, true, false, List, [], ◌∷◌, ◌++◌, Some, map, length, get_or, All, Contains, subst, sym, ap, ◌∙◌, refl, arith}
use Rattle.std.specs.Prelude.{slice_index_or, ℤ}
use Rattle.std.proofs.lemmas.List.{map-append}
use Rattle.std.proofs.lemmas.List.Elements.{All-nil, All-cons, All-head, All-tail, All-append, All-push, All-weaker, All-contains, Contains-get_or, Contains-append_left, Contains-append_right, Contains-push_cases}
use Rattle.smt_meaning.specs.declared.values.Sort.{Sort}
use Rattle.smt_meaning.specs.declared.values.Sort.TheVariants.{Bool as Truths}
use Rattle.smt_meaning.specs.declared.terms.Head.{Head}
use Rattle.smt_meaning.specs.declared.clauses.Atom.{Atom}
use Rattle.smt_meaning.specs.Declaration.{Declaration}
use Rattle.smt_meaning.specs.Term.{Tree, Trees, node, tree_at}
use Rattle.smt_meaning.specs.TreeShape.{place_of}
use Rattle.smt_meaning.specs.Nodes.{pick}
use Rattle.smt_meaning.specs.Parts.{IsPart}
use Rattle.smt_meaning.specs.Signature.{tree_sort}
use Rattle.smt_meaning.specs.Clause.{atom_places, symbols, symbols_at}
use Rattle.smt_meaning.specs.Follows.{declared_ids}
use Rattle.smt_meaning.specs.Stack.{signature_of, assertions_of}
use Rattle.smt_meaning.specs.StackCommand.{Stack}
use Rattle.term_store.specs.Terms.{tree_with, AreDifferent}
use Rattle.term_store.proofs.PlaceLemmas.{place_of-is}
use Rattle.atom_form.specs.AtomTableNumbers.{AreApart}
use Rattle.atom_form.specs.AtomNumbersAtoms.{Numbers}
use Rattle.smt_laws.specs.SortLaws.{SymbolsAreDeclared}
use Rattle.search_port.specs.Valid.{IsOf}
use Rattle.scope_stack.specs.Facts.{AreSorts}
use Rattle.scope_stack.specs.Shown.{IsLawful}
use Rattle.scope_stack.proofs.SortLemmas.{last_or_before}
use Rattle.check_atoms.specs.Parts.{IsMarked}
use Rattle.check_atoms.specs.Marks.{AreMarkedFrom}
use Rattle.check_atoms.proofs.Sorting.{HasSort, part_has_sort}
use Rattle.check_atoms.proofs.Marking.{below, same_arguments}
use Rattle.check_atoms.proofs.StackAtomsPlaces.{part_at}
use Rattle.check_atoms.specs.declared.refusal.Refusal.{Refusal}
use Rattle.check_atoms.specs.declared.part.PartAtom.{PartAtom}
use Rattle.check_atoms.specs.declared.part.PartAtom.TheVariants.{Truth, Same, Bound, Limit}
use Rattle.linear_forms.specs.declared.multiples.Multiple.{Multiple}
use Rattle.pair_bounds.specs.Rows.{multiples, limit_of_row}
use Rattle.smt_meaning.specs.Atoms.{limit_atom}
use Rattle.check_atoms.specs.PartAtoms.{atom_of, truth_by_sort, compared_by_head, of_part, wanted_of, sort_of, sort_in}
use Rattle.check_atoms.specs.AssertedDistinct.{IsAssertedDistinct}
use Rattle.check_atoms.specs.Divisors.{IsDivisorOf}
use Rattle.check_atoms.specs.Numbering.{IsNormal, Adds, RefusesBound, RefusesRows, RefusesOne, RefusesDivision}
use Rattle.check_atoms.specs.OfStack.{IsNode, part_atoms, HasAtoms, IsAtomOfPart, ComparesMarked, AreCheckAtoms, AreAtomsBelow, IsRefused}
use Rattle.check_atoms.specs.Chords.{MayCompare}
use Rattle.smt_meaning.specs.declared.clauses.Atom.TheVariants.{Truth as TruthAtom, Same as SameAtom, AtMost}
use Rattle.smt_meaning.specs.Clause.{sum_places}
use Rattle.smt_meaning.specs.CheckAtoms.{is_leaf, IsLeaf}
use Rattle.smt_laws.specs.Rows.{place_form, place_divisor}
use Rattle.bound_clauses.specs.Orders.{bound_atom}
use Rattle.check_atoms.proofs.Marking.{part_of_part}
use Rattle.check_atoms.specs.OfStack.{bound_terms}
use Rattle.check_atoms.proofs.Integers.{IsIntBound, part_int}
use Rattle.check_atoms.proofs.Sums.{IsInt, HaveLeaves, bound_places, limit_places}
use Rattle.check_atoms.proofs.PartPlaces.{IsOver, part_over, same_part}

head_of : (h k : Head) (ts us : Trees) → node h ts ≡ node k us → h ≡ k
head_of h k ts us e = cc

apart : (b : Bool) → b ≡ true → b ≡ false → ⊥
apart b p q = cc

-- ---- the truth of a part alone, or all of its atoms

module _ (ts : List Tree) (atoms : List Atom) (xs ys : List PartAtom) (all : All (Contains atoms) (map (atom_of ts) (xs ++ ys))) where
  among_all : (a : Atom) → Contains (map (atom_of ts) xs ++ map (atom_of ts) ys) a → Contains atoms a
  among_all a c = All-contains (Contains atoms) (map (atom_of ts) (xs ++ ys)) a all (subst (λ zs. Contains zs a) (sym (map-append (atom_of ts) xs ys)) c)

  firsts : All (Contains atoms) (map (atom_of ts) xs)
  firsts = λ k d l. among_all (get_or (map (atom_of ts) xs) k d) (Contains-append_left (map (atom_of ts) xs) (map (atom_of ts) ys) (get_or (map (atom_of ts) xs) k d) (Contains-get_or (map (atom_of ts) xs) k d l))

  lasts : All (Contains atoms) (map (atom_of ts) ys)
  lasts = λ k d l. among_all (get_or (map (atom_of ts) ys) k d) (Contains-append_right (map (atom_of ts) xs) (map (atom_of ts) ys) (get_or (map (atom_of ts) ys) k d) (Contains-get_or (map (atom_of ts) ys) k d l))

pub more_atoms : (s : Stack) (old new : List Atom) (p : ℕ) (h : Head) (is : List ℕ) → ((a : Atom) → Contains old a → Contains new a) → HasAtoms s old p h is → HasAtoms s new p h is
more_atoms s old new p h is stay has = record {
  truth = All-weaker (Contains old) (Contains new) stay (map (atom_of s.trees) (truth_by_sort (sort_of (signature_of s.frames) s.trees p) p)) has.truth;
  compared = elim has.compared [
    | inl alone ↦ inl alone
    | inr all ↦
        inr (All-weaker (Contains old) (Contains new) stay (map (atom_of s.trees) (compared_by_head (sort_of (signature_of s.frames) s.trees) (place_divisor s.trees is) h p is)) all)
  ];
}

module _ (s : Stack) (p : ℕ) (h : Head) (is : List ℕ) where
  -- those that are wanted of the part
  abbrev pub wanted : Bool → List PartAtom
  wanted b = wanted_of (sort_of (signature_of s.frames) s.trees) b (place_divisor s.trees is) p h is

  abbrev truths : List PartAtom
  truths = truth_by_sort (sort_of (signature_of s.frames) s.trees p) p

  abbrev others : List PartAtom
  others = compared_by_head (sort_of (signature_of s.frames) s.trees) (place_divisor s.trees is) h p is

  wanted_among : (b : Bool) (x : PartAtom) → Contains (wanted b) x → Contains (part_atoms s p h is) x
  wanted_among true x c = Contains-append_left truths others x c
  wanted_among false x c = c

  image_among : (b : Bool) (a : Atom) → Contains (map (atom_of s.trees) (wanted b)) a → Contains (map (atom_of s.trees) (part_atoms s p h is)) a
  image_among true a c =
      subst (λ (xs : List Atom). Contains xs a) (sym (map-append (atom_of s.trees) truths others)) (Contains-append_left (map (atom_of s.trees) truths) (map (atom_of s.trees) others) a c)
  image_among false a c = c

  has_wanted : (b : Bool) (atoms : List Atom) → (b ≡ true → IsAssertedDistinct s p h is) → All (Contains atoms) (map (atom_of s.trees) (wanted b)) → HasAtoms s atoms p h is
  has_wanted true atoms alone all = record { truth = all; compared = inl (alone refl) }
  has_wanted false atoms alone all = record { truth = firsts s.trees atoms truths others all; compared = inr (lasts s.trees atoms truths others all) }

module _ (s : Stack) (marks : List Bool) (law : IsLawful s) (parts : AreMarkedFrom s 0 marks) where
  abbrev ds : List Declaration
  ds = signature_of s.frames

  pub inside : (p : ℕ) → IsMarked marks p → p < length s.trees
  inside p m = let short : p < length marks = below marks p m in let size : length marks ≡ length s.trees = parts.size in omega arith

  its_sort : (p : ℕ) → IsMarked marks p → HasSort ds (tree_at s.trees p)
  its_sort p m =
      let part = parts.only p m in
      part_has_sort ds (tree_at s.trees p) part.assertion part.part
      (Truths, All-contains (λ (t : Tree). tree_sort ds t ≡ Some Truths) (assertions_of s.frames) part.assertion law.truths part.asserted)

  pub arguments_marked : (p : ℕ) (h : Head) (is : List ℕ) → IsMarked marks p → IsNode s.trees p h is → All (IsMarked marks) is
  arguments_marked p h is m n = parts.closed p h is (omega arith) m n.tree n.arguments

  module _ (sorts : List Sort) (sorted : AreSorts ds s.trees (length s.trees) sorts) where
    pub sort_there : (p : ℕ) → IsMarked marks p → sort_in sorts p ≡ sort_of ds s.trees p
    sort_there p m = let sort = its_sort p m in ap Some (sorted.each p sort.0 (inside p m) sort.1) ∙ sym sort.1

    pub same_atoms : (d : ℤ) (p : ℕ) (h : Head) (is : List ℕ) → IsDivisorOf s.trees h is d → IsMarked marks p → IsNode s.trees p h is → of_part (sort_in sorts) d p h is ≡ part_atoms s p h is
    same_atoms d p h is divisor m n =
        same_part (sort_in sorts) (sort_of ds s.trees) d p h is (sort_there p m)
        (All-weaker (IsMarked marks) (λ i. sort_in sorts i ≡ sort_of ds s.trees i) sort_there is (arguments_marked p h is m n))
        ∙ divisor.same (sort_of ds s.trees) p

    pub same_wanted : (b : Bool) (d : ℤ) (p : ℕ) (h : Head) (is : List ℕ) → IsDivisorOf s.trees h is d → IsMarked marks p → IsNode s.trees p h is → wanted_of (sort_in sorts) b d p h is ≡ wanted s p h is b
    same_wanted true d p h is divisor m n = ap (λ r. truth_by_sort r p) (sort_there p m)
    same_wanted false d p h is divisor m n = same_atoms d p h is divisor m n

  -- ---- one part more

  one_node : (p : ℕ) (h k : Head) (is js : List ℕ) (atoms : List Atom) → IsNode s.trees p h is → IsNode s.trees p k js → HasAtoms s atoms p h is → HasAtoms s atoms p k js
  one_node p h k is js atoms a b has =
      subst (λ (g : Head). HasAtoms s atoms p g js) (head_of h k (pick s.trees is) (pick s.trees js) (sym a.tree ∙ b.tree))
      (subst (λ (ls : List ℕ). HasAtoms s atoms p h ls) (same_arguments s.trees p h k is js law.in_order a.arguments b.arguments a.tree b.tree) has)

  pub part_more : (b : Bool) (k : ℕ) (h : Head) (is : List ℕ) (old new : List Atom) → (b ≡ true → IsAssertedDistinct s k h is) → IsMarked marks k → IsNode s.trees k h is → AreAtomsBelow s marks k old
      → Adds (length s.trees) old (map (atom_of s.trees) (wanted s k h is b)) new → AreAtomsBelow s marks (k + 1) new
  part_more b k h is old new alone m n before a = record {
    bounds = λ i d l. elim (a.only (get_or new i d) (Contains-get_or new i d l)) [
      | inl old_one ↦ All-contains (IsNormal (length s.trees)) old (get_or new i d) before.bounds old_one
      | inr here ↦ All-contains (IsNormal (length s.trees)) (map (atom_of s.trees) (wanted s k h is b)) (get_or new i d) a.normal here
    ];
    only = λ x c. elim (a.only x c) [ inl old_one ↦ before.only x old_one | inr here ↦ record { place = k; head = h; arguments = is; marked = m; term = n; among = image_among s k h is b x here } ];
    each = λ p g js l pm pn. elim (last_or_before k p l) [
      | inl less ↦ more_atoms s old new p g js a.stay (before.each p g js less pm pn)
      | inr last ↦ here p g js last pn
    ];
  }
    where
      here : (p : ℕ) (g : Head) (js : List ℕ) → k ≡ p → IsNode s.trees p g js → HasAtoms s new p g js
      here p g js e pn =
          let at : IsNode s.trees k g js = subst (λ q. IsNode s.trees q g js) (sym e) pn in
          subst (λ q. HasAtoms s new q g js) e (one_node k h g is js new n at (has_wanted s k h is b new alone a.these))

  pub no_part : (k : ℕ) (atoms : List Atom) → slice_index_or marks k false ≡ false → AreAtomsBelow s marks k atoms → AreAtomsBelow s marks (k + 1) atoms
  no_part k atoms none b = record {
    bounds = b.bounds;
    only = b.only;
    each = λ p g js l pm pn. elim (last_or_before k p l) [
      | inl before ↦ b.each p g js before pm pn
      | inr last ↦ absurd (apart (slice_index_or marks p false) pm (subst (λ q. slice_index_or marks q false ≡ false) last none))
    ];
  }

  pub part_refused : (b : Bool) (k : ℕ) (h : Head) (is : List ℕ) (e : Refusal) → IsMarked marks k → IsNode s.trees k h is → RefusesOne s.trees k (wanted s k h is b) e → IsRefused s e
  part_refused b k h is e m n (inl memory) = inl memory
  part_refused b k h is e m n (inr (inl r)) =
      let bound : RefusesBound s.trees k (part_atoms s k h is) e = record { order = r.order; among = wanted_among s k h is b (Bound r.order) r.among; refuses = r.refuses } in
      inr (record { place = k; head = h; arguments = is; part = parts.only k m; term = n; atom = inl bound })
  part_refused b k h is e m n (inr (inr r)) =
      let row : RefusesRows s.trees k (part_atoms s k h is) e = record { limit = r.limit; among = wanted_among s k h is b (Limit r.limit) r.among; refuses = r.refuses } in
      inr (record { place = k; head = h; arguments = is; part = parts.only k m; term = n; atom = inr (inl row) })

  pub divisor_refused : (k : ℕ) (h : Head) (is : List ℕ) (e : Refusal) → IsMarked marks k → IsNode s.trees k h is → RefusesDivision s.trees k is e → IsRefused s e
  divisor_refused k h is e m n o = inr (record { place = k; head = h; arguments = is; part = parts.only k m; term = n; atom = inr (inr o) })

  -- ---- the places and the symbols of the atoms

  different : AreDifferent s.trees
  different j k less within e = let same : j ≡ k = law.in_order.different j k (omega (arith, less, within)) within e in omega (arith, same, less)

  -- an Int leaf of the assertions, at a marked place
  abbrev IsLeafPart : ℕ → Type 0
  IsLeafPart q = IsMarked marks q × IsLeaf s.trees s.frames q

  leaf_there : (p : ℕ) → IsMarked marks p → (u : Tree) → IsPart u (tree_at s.trees p) → is_leaf u ≡ true → IsInt ds u → IsLeafPart (place_of u s.trees)
  leaf_there p m u q leaf int =
      let at = part_at s.trees marks law.in_order parts.size parts.closed u (tree_at s.trees p) q (p, m, refl) in
      let whole = parts.only p m in (
        subst (IsMarked marks) (sym (place_of-is u s.trees at.0 different (inside at.0 at.1) at.2)) at.1,
        record {
          leaf = u;
          part = record { part = record { assertion = whole.assertion; asserted = whole.asserted; part = part_of_part u (tree_at s.trees p) whole.assertion q whole.part }; int = int; place_is = refl };
          is = leaf;
        },
      )

  record HasPlaces (a : Atom) : Type 0 where
    over : All (IsMarked marks) (atom_places a)
    leaves : All (IsLeaf s.trees s.frames) (bound_terms a)

  bound_has : (a : Atom) → All IsLeafPart (atom_places a) → HasPlaces a
  bound_has (TruthAtom p) h = record { over = All-weaker IsLeafPart (IsMarked marks) (λ q k. k.0) (p ∷ []) h; leaves = All-nil (IsLeaf s.trees s.frames) }
  bound_has (SameAtom i j) h = record { over = All-weaker IsLeafPart (IsMarked marks) (λ q k. k.0) (i ∷ j ∷ []) h; leaves = All-nil (IsLeaf s.trees s.frames) }
  bound_has (AtMost sum k) h = record {
    over = All-weaker IsLeafPart (IsMarked marks) (λ q k. k.0) (sum_places sum) h;
    leaves = All-weaker IsLeafPart (IsLeaf s.trees s.frames) (λ q k. k.1) (sum_places sum) h;
  }

  has_places : (x : PartAtom) → IsOver (IsMarked marks) x → IsIntBound ds s.trees x → HasPlaces (atom_of s.trees x)
  has_places (Truth p) h i = record { over = All-cons (IsMarked marks) p [] h (All-nil (IsMarked marks)); leaves = All-nil (IsLeaf s.trees s.frames) }
  has_places (Same i j) h k = record {
    over = All-cons (IsMarked marks) i (j ∷ []) h.0 (All-cons (IsMarked marks) j [] h.1 (All-nil (IsMarked marks)));
    leaves = All-nil (IsLeaf s.trees s.frames);
  }
  has_places (Bound o) h i = bound_has (bound_atom s.trees o) (bound_places IsLeafPart s.trees ds o i.0 i.1 (leaf_there o.lesser h.0) (leaf_there o.greater h.1))
  has_places (Limit l) h i =
      bound_has (limit_atom (place_form s.trees) (limit_of_row l))
      (limit_places IsLeafPart s.trees ds l i (All-weaker (λ (m : Multiple). IsMarked marks m.term) (λ (m : Multiple). HaveLeaves IsLeafPart s.trees ds (tree_at s.trees m.term)) (λ m k. leaf_there m.term k) (multiples l) h))

  each_image : (xs : List PartAtom) → All (IsOver (IsMarked marks)) xs → All (IsIntBound ds s.trees) xs → All HasPlaces (map (atom_of s.trees) xs)
  each_image [] h g = All-nil HasPlaces
  each_image (x ∷ xs) h g =
      All-cons HasPlaces (atom_of s.trees x) (map (atom_of s.trees) xs) (has_places x (All-head (IsOver (IsMarked marks)) x xs h) (All-head (IsIntBound ds s.trees) x xs g))
      (each_image xs (All-tail (IsOver (IsMarked marks)) x xs h) (All-tail (IsIntBound ds s.trees) x xs g))

  over_leaves : (a : Atom) → IsAtomOfPart s marks a → HasPlaces a
  over_leaves a p =
      let sort = its_sort p.place p.marked in
      All-contains HasPlaces (map (atom_of s.trees) (part_atoms s p.place p.head p.arguments)) a
      (each_image (part_atoms s p.place p.head p.arguments)
      (part_over (IsMarked marks) (sort_of ds s.trees) (place_divisor s.trees p.arguments) p.place p.head p.arguments p.marked (arguments_marked p.place p.head p.arguments p.marked p.term))
      (part_int ds s.trees (place_divisor s.trees p.arguments) p.place p.head p.arguments sort.0 sort.1 p.term.tree))
      p.among

  module _ (declares : SymbolsAreDeclared) where
    symbols_declared : (p : ℕ) → IsMarked marks p → All (Contains (declared_ids s.frames)) (symbols (tree_at s.trees p))
    symbols_declared p m = let sort = its_sort p m in declares ds (tree_at s.trees p) sort.0 sort.1

    all_declared : (ps : List ℕ) → All (IsMarked marks) ps → All (Contains (declared_ids s.frames)) (symbols_at s.trees ps)
    all_declared [] h = All-nil (Contains (declared_ids s.frames))
    all_declared (p ∷ ps) h =
        All-append (Contains (declared_ids s.frames)) (symbols (tree_at s.trees p)) (symbols_at s.trees ps) (symbols_declared p (All-head (IsMarked marks) p ps h))
        (all_declared ps (All-tail (IsMarked marks) p ps h))

    is_of : (a : Atom) → All (IsMarked marks) (atom_places a) → IsOf s.trees s.frames a
    is_of a h = record { declared = all_declared (atom_places a) h; within = All-weaker (IsMarked marks) (λ i. i < length s.trees) inside (atom_places a) h }

    pub all_atoms : (atoms : List Atom) → AreAtomsBelow s marks (length s.trees) atoms → length atoms ≤ 2 ^ 31 → AreApart atoms → AreCheckAtoms s marks atoms
    all_atoms atoms b few apart =
        let over : All (λ (a : Atom). All (IsMarked marks) (atom_places a)) atoms = λ k d l. (over_leaves (get_or atoms k d) (b.only (get_or atoms k d) (Contains-get_or atoms k d l))).over in
        record {
          size = parts.size;
          few = few;
          apart = apart;
          only = λ a c. inl (b.only a c);
          each = λ p h is m n. b.each p h is n.within m n;
          bounds = b.bounds;
          over_parts = over;
          leaves = λ k d l. (over_leaves (get_or atoms k d) (b.only (get_or atoms k d) (Contains-get_or atoms k d l))).leaves;
          declared = All-weaker (λ (a : Atom). All (IsMarked marks) (atom_places a)) (IsOf s.trees s.frames) is_of atoms over;
        }

    -- the equality of two parts of one declared sort more
    grown : (i j : ℕ) (old new : List Atom) → ComparesMarked s marks (SameAtom i j) → IsMarked marks i → IsMarked marks j → length new ≤ 2 ^ 31 → AreApart new → new ≡ old ++ SameAtom i j ∷ []
        → AreCheckAtoms s marks old → AreCheckAtoms s marks new
    grown i j old new compares left right few apart e a =
        let places : All (IsMarked marks) (i ∷ j ∷ []) = All-cons (IsMarked marks) i (j ∷ []) left (All-cons (IsMarked marks) j [] right (All-nil (IsMarked marks))) in
        let both = old ++ SameAtom i j ∷ [] in
        let all_of : (P : Atom → Type 0) → All P old → P (SameAtom i j) → All P new = λ P h k. subst (All P) (sym e) (All-push P old (SameAtom i j) h k) in
        record {
          size = a.size;
          few = few;
          apart = apart;
          only = λ x c. elim (Contains-push_cases old (SameAtom i j) x (subst (λ xs. Contains xs x) e c)) [
            | inl before ↦ a.only x before
            | inr here ↦ inr (subst (ComparesMarked s marks) here compares)
          ];
          each = λ p h is m n. more_atoms s old new p h is (λ x c. subst (λ xs. Contains xs x) (sym e) (Contains-append_left old (SameAtom i j ∷ []) x c)) (a.each p h is m n);
          bounds = all_of (IsNormal (length s.trees)) a.bounds tt;
          over_parts = all_of (λ (x : Atom). All (IsMarked marks) (atom_places x)) a.over_parts places;
          leaves = all_of (λ (x : Atom). All (IsLeaf s.trees s.frames) (bound_terms x)) a.leaves (All-nil (IsLeaf s.trees s.frames));
          declared = all_of (IsOf s.trees s.frames) a.declared (is_of (SameAtom i j) places);
        }

    pub chord_more : (sorts : List Sort) (i j n : ℕ) (old new : List Atom) → AreSorts ds s.trees (length s.trees) sorts → MayCompare sorts marks i j → Numbers old new (SameAtom i j) n
        → length new ≤ 2 ^ 31 → AreApart new → AreCheckAtoms s marks old → AreCheckAtoms s marks new
    chord_more sorts i j n old new sorted may numbers few apart a = elim numbers.others [
      | inl same ↦ subst (AreCheckAtoms s marks) (sym same) a
      | inr added ↦
          grown i j old new
          (record {
            left = i;
            right = j;
            sort = may.sort.sort;
            left_marked = may.left;
            right_marked = may.right;
            left_sort = sym (sort_there sorts sorted i may.left) ∙ ap Some may.sort.left_is;
            right_sort = sym (sort_there sorts sorted j may.right) ∙ ap Some may.sort.right_is;
            atom = refl;
          }) may.left may.right few apart added.0 a
    ]

pub no_atoms : (s : Stack) (marks : List Bool) → AreAtomsBelow s marks 0 []
no_atoms s marks = record { bounds = All-nil (IsNormal (length s.trees)); only = λ a c. absurd (none a c); each = λ p h is l m n. absurd (omega arith) }
  where
    none : (a : Atom) → Contains [] a → ⊥
    none a (k, h, e) = omega (arith, h)

pub node_here : (trees : List Tree) (p : ℕ) (h : Head) (is : List ℕ) → p < length trees → tree_at trees p ≡ tree_with trees h is → All (λ i. i < p) is → IsNode trees p h is
node_here trees p h is within tree earlier = record { within = within; tree = tree; arguments = All-weaker (λ i. i < p) (λ i. i < length trees) (λ i l. omega (arith, l, within)) is earlier }
