-- Each part of an assertion is at a marked place.
use Rattle.std.proofs.Common.{◌≡◌, inl, inr, ℕ, ◌<◌, Bool, List, [], ◌∷◌, length, All, subst, sym, ap, ◌∙◌, arith, refl}
use Rattle.std.proofs.lemmas.List.Elements.{All-nil, All-cons, All-head, All-tail, All-weaker, All-map, All-contains}
use Rattle.smt_meaning.specs.declared.terms.Head.{Head}
use Rattle.smt_meaning.specs.Term.{Tree, Trees, node, none, more, tree_at}
use Rattle.smt_meaning.specs.Nodes.{pick}
use Rattle.smt_meaning.specs.Parts.{IsPart, IsPartOfOne, IsOneOf, IsArgument, StandsBelow, AreInOrder}
use Rattle.smt_meaning.specs.Stack.{assertions_of}
use Rattle.smt_meaning.specs.StackCommand.{Stack}
use Rattle.term_store.specs.Terms.{tree_with}
use Rattle.scope_stack.specs.declared.answers.Assertion.{Assertion}
use Rattle.scope_stack.specs.Shown.{AreAsserted}
use Rattle.check_atoms.specs.Parts.{IsMarked}
use Rattle.check_atoms.specs.StackAtomsOfStack.{HasPlace}
use Rattle.check_atoms.specs.Marks.{AreClosedFrom, AreMarked, AreStackParts}
use Rattle.check_atoms.proofs.Marking.{below}

-- the arguments of a term by their places
pub record Picked (trees : List Tree) (us : Trees) : Type 0 where
  pub places : List ℕ
  pub are : pick trees places ≡ us
  pub within : All (λ i. i < length trees) places

pub picked : (trees : List Tree) (us : Trees) → ((u : Tree) → IsOneOf u us → (i : ℕ) × (i < length trees) × (tree_at trees i ≡ u)) → Picked trees us
picked trees none h = record { places = []; are = refl; within = All-nil (λ i. i < length trees) }
picked trees (more u us) h =
    let here = h u (inl refl) in
    let rest : Picked trees us = picked trees us (λ v c. h v (inr c)) in
    record {
      places = here.0 ∷ rest.places;
      are = ap (λ t. more t (pick trees rest.places)) here.2 ∙ ap (more u) rest.are;
      within = All-cons (λ i. i < length trees) here.0 rest.places here.1 rest.within;
    }

-- a marked place has the term
abbrev pub IsAt : List Tree → List Bool → Tree → Type 0
IsAt trees marks t = (p : ℕ) × IsMarked marks p × (tree_at trees p ≡ t)

module _ (trees : List Tree) (marks : List Bool) (order : AreInOrder trees) (size : length marks ≡ length trees) (closed : AreClosedFrom trees 0 marks) where
  each_at : (is : List ℕ) → All (IsMarked marks) is → (u : Tree) → IsOneOf u (pick trees is) → IsAt trees marks u
  each_at [] h u c = absurd c
  each_at (i ∷ is) h u (inl e) = (i, All-head (IsMarked marks) i is h, sym e)
  each_at (i ∷ is) h u (inr c) = each_at is (All-tail (IsMarked marks) i is h) u c

  arguments_at : (h : Head) (us : Trees) → IsAt trees marks (node h us) → (u : Tree) → IsOneOf u us → IsAt trees marks u
  arguments_at h us a u c =
      let short : a.0 < length marks = below marks a.0 a.1 in
      let inside : a.0 < length trees = omega arith in
      let p : Picked trees us =
      picked trees us (λ v k. (
      let b : StandsBelow trees a.0 v = order.after_arguments a.0 v inside (subst (IsArgument v) (sym a.2) k) in
      (b.0, b.2, b.3)
      )) in
      let tree : tree_at trees a.0 ≡ tree_with trees h p.places = a.2 ∙ ap (node h) (sym p.are) in
      each_at p.places (closed a.0 h p.places (omega arith) a.1 tree p.within) u (subst (IsOneOf u) (sym p.are) c)

  mutual
    pub part_at : (u t : Tree) → IsPart u t → IsAt trees marks t → IsAt trees marks u
    part_at u (node h us) (inl e) a = subst (IsAt trees marks) (sym e) a
    part_at u (node h us) (inr q) a = part_of_some_at u us q (λ v c. arguments_at h us a v c)

    part_of_some_at : (u : Tree) (us : Trees) → IsPartOfOne u us → ((v : Tree) → IsOneOf v us → IsAt trees marks v) → IsAt trees marks u
    part_of_some_at u none q h = absurd q
    part_of_some_at u (more t us) (inl q) h = part_at u t q (h t (inl refl))
    part_of_some_at u (more t us) (inr q) h = part_of_some_at u us q (λ v c. h v (inr c))

abbrev term_of : List Tree → Assertion → Tree
term_of trees a = tree_at trees a.term

each_asserted : (s : Stack) (xs : List Assertion) (marks : List Bool) → AreAsserted s xs → All (λ (a : Assertion). IsMarked marks a.term) xs → All (IsAt s.trees marks) (assertions_of s.frames)
each_asserted s xs marks h m =
    subst (All (IsAt s.trees marks)) h.terms
    (All-map (IsAt s.trees marks) (term_of s.trees) xs (All-weaker (λ (a : Assertion). IsMarked marks a.term) (λ (a : Assertion). IsAt s.trees marks (tree_at s.trees a.term)) (λ a k. (a.term, k, refl)) xs m))

-- exactly the parts of the assertions are marked
pub stack_parts : (s : Stack) (xs : List Assertion) (marks : List Bool) → AreInOrder s.trees → AreAsserted s xs → AreMarked s xs 0 marks → AreStackParts s marks
stack_parts s xs marks order h m = record {
  only = m.parts.only;
  each = λ t p. part_at s.trees marks order m.parts.size m.parts.closed t p.assertion p.part
      (All-contains (IsAt s.trees marks) (assertions_of s.frames) p.assertion (each_asserted s xs marks h m.asserted) p.asserted);
}

pub assertions_marked : (s : Stack) (xs : List Assertion) (marks : List Bool) → AreAsserted s xs → AreMarked s xs 0 marks → All (HasPlace s.trees marks) (assertions_of s.frames)
assertions_marked s xs marks h m =
    All-weaker (IsAt s.trees marks) (HasPlace s.trees marks) (λ t a. record { place = a.0; marked = a.1; tree = a.2 }) (assertions_of s.frames) (each_asserted s xs marks h m.asserted)
