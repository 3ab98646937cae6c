-- Marking places, one after another.
use Rattle.std.proofs.Common.{◌≡◌, ◌⊎◌, inl, inr, ℕ, zero, suc, ◌<◌, ◌≤◌, ◌+◌, Bool, true, false, List, [], ◌∷◌, ◌++◌, map, length, take, set, get_or, All, Contains, slice_index_or, subst, sym, ap, ◌∙◌, arith, refl, replicate}
use Rattle.std.proofs.Math.ListN.{get_or-map}
use Rattle.std.proofs.lemmas.List.{take_more, length-set, length-map, get_or-set_same, get_or_default, length-replicate, map-append}
use Rattle.std.proofs.lemmas.List.Elements.{All-head, All-tail, All-nil, All-cons, All-push, All-contains, All-weaker, All-map, All-same, Contains-push, Contains-append_left}
use Rattle.smt_meaning.specs.declared.terms.Head.{Head}
use Rattle.smt_meaning.specs.Term.{Tree, Trees, node, none, more, tree_at}
use Rattle.smt_meaning.specs.Nodes.{pick}
use Rattle.smt_meaning.specs.Parts.{AreInOrder, IsPart, IsPartOfOne}
use Rattle.smt_meaning.specs.Report.{IsPartOfStack}
use Rattle.smt_meaning.specs.Stack.{Frame, assertions_of}
use Rattle.smt_meaning.specs.StackCommand.{Stack}
use Rattle.term_store.specs.Terms.{tree_with}
use Rattle.scope_stack.specs.declared.answers.Assertion.{Assertion}
use Rattle.scope_stack.specs.Shown.{AreAsserted}
use Rattle.check_atoms.specs.Parts.{IsMarked}
use Rattle.check_atoms.specs.Marks.{MarksAlso, AreMarkedFrom, AreMarked}

-- ---- parts of parts

part_itself : (t : Tree) → IsPart t t
part_itself (node h ts) = inl refl

mutual
  pub part_of_part : (u t a : Tree) → IsPart u t → IsPart t a → IsPart u a
  part_of_part u t (node h ts) p (inl e) = subst (IsPart u) e p
  part_of_part u t (node h ts) p (inr q) = inr (part_of_some u t ts p q)

  pub part_of_some : (u t : Tree) (ts : Trees) → IsPart u t → IsPartOfOne t ts → IsPartOfOne u ts
  part_of_some u t none p q = absurd q
  part_of_some u t (more a ts) p (inl q) = inl (part_of_part u t a p q)
  part_of_some u t (more a ts) p (inr q) = inr (part_of_some u t ts p q)

arguments_are_parts : (trees : List Tree) (is : List ℕ) → All (λ i. IsPartOfOne (tree_at trees i) (pick trees is)) is
arguments_are_parts trees [] = All-nil (λ i. IsPartOfOne (tree_at trees i) none)
arguments_are_parts trees (i ∷ is) =
    All-cons (λ j. IsPartOfOne (tree_at trees j) (pick trees (i ∷ is))) i is (inl (part_itself (tree_at trees i)))
    (All-weaker (λ j. IsPartOfOne (tree_at trees j) (pick trees is)) (λ j. IsPartOfOne (tree_at trees j) (pick trees (i ∷ is))) (λ j q. inr q) is (arguments_are_parts trees is))

pub argument_of_stack : (frames : List Frame) (trees : List Tree) (h : Head) (is : List ℕ) (p : ℕ) → IsPartOfStack frames (tree_with trees h is) → Contains is p → IsPartOfStack frames (tree_at trees p)
argument_of_stack frames trees h is p k c = record {
  assertion = k.assertion;
  asserted = k.asserted;
  part = part_of_part (tree_at trees p) (tree_with trees h is) k.assertion (inr (All-contains (λ i. IsPartOfOne (tree_at trees i) (pick trees is)) is p (arguments_are_parts trees is) c)) k.part;
}

pub assertion_of_stack : (frames : List Frame) (t : Tree) → Contains (assertions_of frames) t → IsPartOfStack frames t
assertion_of_stack frames t c = record { assertion = t; asserted = c; part = part_itself t }

-- ---- marks

apart : (b : Bool) → b ≡ true → b ≡ false → ⊥
apart b p q = cc

-- ---- one place more

mark_here : (marks : List Bool) (p : ℕ) → p < length marks → IsMarked (set marks p true) p
mark_here marks p h = get_or-set_same marks p true false h

mark_stays : (marks : List Bool) (p q : ℕ) → p < length marks → IsMarked marks q → IsMarked (set marks p true) q
mark_stays [] p q h m = absurd (omega arith)
mark_stays (b ∷ marks) zero zero h m = refl
mark_stays (b ∷ marks) zero (suc q) h m = m
mark_stays (b ∷ marks) (suc p) zero h m = m
mark_stays (b ∷ marks) (suc p) (suc q) h m = mark_stays marks p q (omega arith) m

mark_only : (marks : List Bool) (p q : ℕ) → p < length marks → IsMarked (set marks p true) q → IsMarked marks q ⊎ (p ≡ q)
mark_only [] p q h m = absurd (omega arith)
mark_only (b ∷ marks) zero zero h m = inr refl
mark_only (b ∷ marks) zero (suc q) h m = inl m
mark_only (b ∷ marks) (suc p) zero h m = inl m
mark_only (b ∷ marks) (suc p) (suc q) h m = elim (mark_only marks p q (omega arith) m) [ inl r ↦ inl r | inr r ↦ inr (ap suc r) ]

pub none_also : (marks : List Bool) → MarksAlso marks [] marks
none_also marks = record { size = refl; these = All-nil (IsMarked marks); stay = λ p m. m; only = λ p m. inl m }

also_only : (old new : List Bool) (places : List ℕ) (p q : ℕ) → MarksAlso old places new → p < length new → IsMarked (set new p true) q → IsMarked old q ⊎ Contains (places ++ p ∷ []) q
also_only old new places p q m h k = elim (mark_only new p q h k) [
  | inl r ↦ elim (m.only q r) [ inl s ↦ inl s | inr s ↦ inr (Contains-append_left places (p ∷ []) q s) ]
  | inr r ↦ inr (subst (Contains (places ++ p ∷ [])) r (Contains-push places p))
]

pub one_also : (old new : List Bool) (places : List ℕ) (p : ℕ) → MarksAlso old places new → p < length new → MarksAlso old (places ++ p ∷ []) (set new p true)
one_also old new places p m h = record {
  size = length-set new p true ∙ m.size;
  these = All-push (IsMarked (set new p true)) places p (All-weaker (IsMarked new) (IsMarked (set new p true)) (λ q k. mark_stays new p q h k) places m.these) (mark_here new p h);
  stay = λ q k. mark_stays new p q h (m.stay q k);
  only = λ q k. also_only old new places p q m h k;
}

-- ---- places of one list of different trees

argument_here : (i j : Tree) (is js : Trees) → more i is ≡ more j js → i ≡ j
argument_here i j is js e = cc

arguments_after : (i j : Tree) (is js : Trees) → more i is ≡ more j js → is ≡ js
arguments_after i j is js e = cc

none_or_more : (t : Tree) (ts : Trees) → none ≡ more t ts → ⊥
none_or_more t ts e = cc

same_picks : (trees : List Tree) (is js : List ℕ) → AreInOrder trees → All (λ i. i < length trees) is → All (λ i. i < length trees) js → pick trees is ≡ pick trees js → is ≡ js
same_picks trees [] [] o a b e = refl
same_picks trees [] (j ∷ js) o a b e = absurd (none_or_more _ _ e)
same_picks trees (i ∷ is) [] o a b e = absurd (none_or_more _ _ (sym e))
same_picks trees (i ∷ is) (j ∷ js) o a b e =
    let first : i ≡ j = o.different i j (All-head (λ k. k < length trees) i is a) (All-head (λ k. k < length trees) j js b) (argument_here _ _ _ _ e) in
    let rest : is ≡ js = same_picks trees is js o (All-tail (λ k. k < length trees) i is a) (All-tail (λ k. k < length trees) j js b) (arguments_after _ _ _ _ e) in
    ap (λ k. k ∷ is) first ∙ ap (λ ks. j ∷ ks) rest

picks_of : (h k : Head) (ts us : Trees) → node h ts ≡ node k us → ts ≡ us
picks_of h k ts us e = cc

pub same_arguments : (trees : List Tree) (p : ℕ) (h k : Head) (is js : List ℕ) → AreInOrder trees → All (λ i. i < length trees) is → All (λ i. i < length trees) js
    → tree_at trees p ≡ tree_with trees h is → tree_at trees p ≡ tree_with trees k js → is ≡ js
same_arguments trees p h k is js o a b d e = same_picks trees is js o a b (picks_of h k (pick trees is) (pick trees js) (sym d ∙ e))

-- ---- the parts from one place less on

pub below : (marks : List Bool) (p : ℕ) → IsMarked marks p → p < length marks
below [] p m = absurd (apart false m refl)
below (b ∷ marks) zero m = omega arith
below (b ∷ marks) (suc p) m = let rest : p < length marks = below marks p m in omega arith

at_or_above : (id p : ℕ) → id ≤ p → (id ≡ p) ⊎ (id + 1 ≤ p)
at_or_above zero zero h = inl refl
at_or_above zero (suc p) h = inr (omega arith)
at_or_above (suc id) zero h = absurd (omega arith)
at_or_above (suc id) (suc p) h = elim (at_or_above id p (omega arith)) [ inl e ↦ inl (ap suc e) | inr l ↦ inr (omega arith) ]

pub parts_marked : (s : Stack) (id : ℕ) (h : Head) (is : List ℕ) (old new : List Bool) → AreInOrder s.trees → id < length s.trees → IsMarked old id → All (λ i. i < id) is
    → tree_at s.trees id ≡ tree_with s.trees h is → AreMarkedFrom s (id + 1) old → MarksAlso old is new → AreMarkedFrom s id new
parts_marked s id h is old new o within marked earlier e parts m =
    let below_all : All (λ i. i < length s.trees) is = All-weaker (λ i. i < id) (λ i. i < length s.trees) (λ i m'. omega arith) is earlier in
    record {
      size = m.size ∙ parts.size;
      only = λ p k. elim (m.only p k) [
        | inl r ↦ parts.only p r
        | inr r ↦ argument_of_stack s.frames s.trees h is p (subst (IsPartOfStack s.frames) e (parts.only id marked)) r
      ];
      closed = λ p g js l k d b. elim (at_or_above id p l) [
        | inl same ↦
            All-same (IsMarked new) js is
            (same_arguments s.trees p g h js is o b below_all d (subst (λ q. tree_at s.trees q ≡ tree_with s.trees h is) same e)) m.these
        | inr above ↦ elim (m.only p k) [
          | inl r ↦ All-weaker (IsMarked old) (IsMarked new) m.stay js (parts.closed p g js above r d b)
          | inr r ↦ let less : p < id = All-contains (λ i. i < id) is p earlier r in absurd (omega arith)
        ]
      ];
    }

pub parts_unmarked : (s : Stack) (id : ℕ) (marks : List Bool) → slice_index_or marks id false ≡ false → AreMarkedFrom s (id + 1) marks → AreMarkedFrom s id marks
parts_unmarked s id marks n parts = record {
  size = parts.size;
  only = parts.only;
  closed = λ p g js l k d b. elim (at_or_above id p l) [
    | inl same ↦ absurd (apart (slice_index_or marks p false) k (subst (λ q. slice_index_or marks q false ≡ false) same n))
    | inr above ↦ parts.closed p g js above k d b
  ];
}

-- ---- the parts at the start

none_marked : (n p : ℕ) → IsMarked (replicate n false) p → ⊥
none_marked zero p m = apart false m refl
none_marked (suc n) zero m = apart false m refl
none_marked (suc n) (suc p) m = none_marked n p m

abbrev term_of : List Tree → Assertion → Tree
term_of trees a = tree_at trees a.term

mapped_in : (f : Assertion → Tree) (xs : List Assertion) → All (λ a. Contains (map f xs) (f a)) xs
mapped_in f xs = λ k d l. (k, subst (λ n. k < n) (sym (length-map xs f)) l, get_or-map f xs k (get_or xs k d) ∙ ap f (get_or_default xs k (get_or xs k d) d l))

-- each is one of the stack's assertions
pub are_assertions : (s : Stack) (xs : List Assertion) → AreAsserted s xs → All (λ (a : Assertion). Contains (assertions_of s.frames) (tree_at s.trees a.term)) xs
are_assertions s xs h = subst (λ (ts : List Tree). All (λ (a : Assertion). Contains ts (tree_at s.trees a.term)) xs) h.terms (mapped_in (term_of s.trees) xs)

abbrev place : Assertion → ℕ
place a = a.term

pub parts_begun : (s : Stack) (xs : List Assertion) (marks : List Bool) → AreAsserted s xs → MarksAlso (replicate (length s.trees) false) (map place xs) marks
    → length (replicate (length s.trees) false) ≡ length s.trees → AreMarkedFrom s (length s.trees) marks
parts_begun s xs marks asserted m size = record {
  size = m.size ∙ size;
  only = λ p k. elim (m.only p k) [
    | inl r ↦ absurd (none_marked (length s.trees) p r)
    | inr r ↦
        assertion_of_stack s.frames (tree_at s.trees p)
        (All-contains (λ i. Contains (assertions_of s.frames) (tree_at s.trees i)) (map place xs) p
        (All-map (λ i. Contains (assertions_of s.frames) (tree_at s.trees i)) place xs (are_assertions s xs asserted)) r)
  ];
  closed = λ p g js l k d b.
      let short : p < length marks = below marks p k in
      let long : length marks ≡ length s.trees = m.size ∙ size in absurd (omega arith);
}

marked_terms : (new : List Bool) (xs : List Assertion) → All (IsMarked new) (map place xs) → All (λ (a : Assertion). IsMarked new a.term) xs
marked_terms new [] h = All-nil (λ (a : Assertion). IsMarked new a.term)
marked_terms new (a ∷ xs) h =
    All-cons (λ (b : Assertion). IsMarked new b.term) a xs (All-head (IsMarked new) a.term (map place xs) h) (marked_terms new xs (All-tail (IsMarked new) a.term (map place xs) h))

pub marks_begun : (s : Stack) (xs : List Assertion) (n : ℕ) (first new : List Bool) → n ≡ length s.trees → first ≡ replicate (length s.trees) false → AreAsserted s xs
    → MarksAlso first (map place xs) new → (n ≤ length s.trees) × AreMarked s xs n new
marks_begun s xs n first new e r asserted m = (
  omega arith,
  record {
    parts = subst (λ k. AreMarkedFrom s k new) (sym e) (parts_begun s xs new asserted (subst (λ ms. MarksAlso ms (map place xs) new) r m) (length-replicate (length s.trees) false));
    asserted = marked_terms new xs m.these;
  },
)

pub assertion_also : (xs : List Assertion) (i : ℕ) (item : Assertion) (old new : List Bool) → i < length xs → item ≡ get_or xs i item → All (λ (a : Assertion). a.term < length old) xs
    → MarksAlso old (map place (take i xs)) new → MarksAlso old (map place (take (i + 1) xs)) (set new item.term true)
assertion_also xs i item old new h e within m =
    let here : item.term < length old = subst (λ (a : Assertion). a.term < length old) (sym e) (within i item h) in
    let size : length new ≡ length old = m.size in
    let list : map place (take (i + 1) xs) ≡ map place (take i xs) ++ item.term ∷ [] =
    ap (map place) (take_more xs i item h) ∙ map-append place (take i xs) (get_or xs i item ∷ []) ∙ ap (λ (a : Assertion). map place (take i xs) ++ a.term ∷ []) (sym e) in
    subst (λ ps. MarksAlso old ps (set new item.term true)) (sym list) (one_also old new (map place (take i xs)) item.term m (omega arith))
