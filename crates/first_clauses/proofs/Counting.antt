-- How many steps it takes to form the clauses.
use Rattle.std.proofs.Common.{◌≡◌, inl, inr, ℕ, zero, suc, ◌+◌, ◌<◌, ◌≤◌, Bool, true, false, List, [], ◌∷◌, length, slice_index_or, if◌then◌else◌, refl, sym, ap, subst, ◌∙◌, arith}
use Rattle.std.proofs.lemmas.Bool.{cases_lt}
use Rattle.std.proofs.lemmas.List.Elements.{All-head, All-tail}
use Rattle.smt_meaning.specs.declared.values.Sort.{Sort}
use Rattle.smt_meaning.specs.declared.values.Sort.TheVariants.{Bool as Truths}
use Rattle.smt_meaning.specs.declared.terms.Operator.{Operator}
use Rattle.smt_meaning.specs.declared.terms.Head.{Head}
use Rattle.smt_meaning.specs.declared.terms.Head.TheVariants.{Theory}
use Rattle.smt_meaning.specs.Term.{Tree, tree_at}
use Rattle.smt_meaning.specs.Nodes.{pick}
use Rattle.smt_meaning.specs.Kinds.{count_trees}
use Rattle.smt_meaning.specs.StackCommand.{Stack}
use Rattle.term_store.specs.Terms.{tree_with}
use Rattle.scope_stack.specs.Shown.{IsLawful}
use Rattle.check_atoms.specs.Parts.{IsMarked}
use Rattle.check_atoms.specs.AssertedDistinct.{IsAssertedDistinct}
use Rattle.check_atoms.specs.OfStack.{IsNode}
use Rattle.check_atoms.proofs.Marking.{same_arguments}
use Rattle.order_clauses.specs.Clauses.{sort_at}
use Rattle.order_clauses.specs.Counted.{distinct_pairs, pairs_by_sort, pairs_of_part}
use Rattle.first_clauses.specs.CheckClausesFirst.{AreBools}
use Rattle.first_clauses.specs.Counted.{pairs_of_tree, if_marked, parts_below, pairs_below, AreBelow, pairs_of_node, ComparesPairs, TakesSteps, TakesStepsBelow}
use Rattle.first_clauses.proofs.CheckClausesKeeping.{heads_same}

-- ---- the pairs of a node

count_picked : (trees : List Tree) (is : List ℕ) → count_trees (pick trees is) ≡ length is
count_picked trees [] = refl
count_picked trees (i ∷ is) = let e : count_trees (pick trees is) ≡ length is = count_picked trees is in omega arith

pub node_pairs : (trees : List Tree) (p : ℕ) (h : Head) (o : Operator) (is : List ℕ) → h ≡ Theory o → tree_at trees p ≡ tree_with trees h is → pairs_of_tree (tree_at trees p) ≡ distinct_pairs o (length is)
node_pairs trees p h o is same e = ap pairs_of_tree (e ∙ ap (λ k. tree_with trees k is) same) ∙ ap (distinct_pairs o) (count_picked trees is)

no_pairs : (sorts : List Sort) (h : Head) (is : List ℕ) → ((o : Operator) → h ≡ Theory o → ⊥) → pairs_of_node sorts h is ≡ 0
no_pairs sorts (Theory o) is none = absurd (none o refl)
no_pairs sorts h is none = refl

pairs_of_bools : (sorts : List Sort) (o : Operator) (is : List ℕ) → AreBools sorts is → pairs_of_part sorts o is ≡ 0
pairs_of_bools sorts o [] bools = refl
pairs_of_bools sorts o (i ∷ is) bools =
    ap (λ t. pairs_by_sort t (length (i ∷ is)) (distinct_pairs o (length (i ∷ is)))) (All-head (λ p. sort_at sorts p ≡ Truths) i is bools)

-- ---- one node

module _ (s : Stack) (marks : List Bool) (sorts : List Sort) (p : ℕ) where
  pub bools_compare : (o : Operator) (is : List ℕ) (before now : ℕ) → AreBools sorts (p ∷ is) → now ≡ before → ComparesPairs s sorts p (Theory o) is before now
  bools_compare o is before now bools same = record {
    asserted = λ alone. same;
    others = λ others. let none = pairs_of_bools sorts o is (All-tail (λ q. sort_at sorts q ≡ Truths) p is bools) in omega arith;
  }

  pub asserted_compares : (o : Operator) (is : List ℕ) (before now : ℕ) → IsAssertedDistinct s p (Theory o) is → now ≡ before → ComparesPairs s sorts p (Theory o) is before now
  asserted_compares o is before now alone same = record { asserted = λ a. same; others = λ others. absurd (others alone) }

  pub other_compares : (o : Operator) (is : List ℕ) (before now : ℕ) → (IsAssertedDistinct s p (Theory o) is → ⊥) → now ≡ before + pairs_of_part sorts o is → ComparesPairs s sorts p (Theory o) is before now
  other_compares o is before now others counted = record { asserted = λ alone. absurd (others alone); others = λ o. counted }

  leaf_compares : (h : Head) (is : List ℕ) (before now : ℕ) → ((o : Operator) → h ≡ Theory o → ⊥) → now ≡ before → ComparesPairs s sorts p h is before now
  leaf_compares h is before now none same = record {
    asserted = λ alone. same;
    others = λ others. let nothing = no_pairs sorts h is none in omega arith;
  }

  pub part_takes : (h : Head) (js : List ℕ) (before now : ℕ) → IsLawful s → IsMarked marks p → IsNode s.trees p h js → ComparesPairs s sorts p h js (before + 1) now → TakesSteps s marks sorts p before now
  part_takes h js before now law marked at compares = record {
    part = λ k is m n.
        let heads : h ≡ k = heads_same s.trees p h k js is at.tree n.tree in
        let arguments : js ≡ is = same_arguments s.trees p h k js is law.in_order at.arguments n.arguments at.tree n.tree in
        subst (λ xs. ComparesPairs s sorts p k xs (before + 1) now) arguments (subst (λ x. ComparesPairs s sorts p x js (before + 1) now) heads compares);
    other = λ not. absurd (not marked);
  }

  pub leaf_takes : (h : Head) (js : List ℕ) (before now : ℕ) → IsLawful s → IsMarked marks p → IsNode s.trees p h js → ((o : Operator) → h ≡ Theory o → ⊥) → now ≡ before + 1 → TakesSteps s marks sorts p before now
  leaf_takes h js before now law marked at none same = part_takes h js before now law marked at (leaf_compares h js (before + 1) now none same)

  pub other_takes : (before now : ℕ) → (IsMarked marks p → ⊥) → now ≡ before → TakesSteps s marks sorts p before now
  other_takes before now not same = record { part = λ h is m n. absurd (not m); other = λ n. same }

  pub next_takes : (before n now : ℕ) → TakesStepsBelow s marks sorts p before n → TakesSteps s marks sorts p n now → TakesStepsBelow s marks sorts (p + 1) before now
  next_takes before n now below here = let next : suc p ≡ p + 1 = omega arith in subst (λ k. TakesStepsBelow s marks sorts k before now) next (n, below, here)

-- ---- at most

pub marked_so : (marks : List Bool) (p n : ℕ) → IsMarked marks p → if_marked marks p n ≡ n
marked_so marks p n m = ap (λ b. if b then n else 0) m

rises : (f : ℕ → ℕ) → ((k : ℕ) → f k ≤ f (suc k)) → (j k : ℕ) → j ≤ k → f j ≤ f k
rises f step j zero l = let same : j ≡ 0 = omega arith in subst (λ i. f i ≤ f 0) (sym same) (omega arith)
rises f step j (suc k) l =
    elim (cases_lt j (suc k)) [
      | inl less ↦ (let before : f j ≤ f k = rises f step j k (omega arith) in omega (arith, before, step k))
      | inr past ↦ (let same : j ≡ suc k = omega arith in subst (λ i. f i ≤ f (suc k)) (sym same) (omega arith))
    ]

module _ (trees : List Tree) (marks : List Bool) where
  pub most_next : (p before now after : ℕ) → now ≤ before + parts_below marks p + pairs_below trees marks p
      → after ≤ now + if_marked marks p 1 + if_marked marks p (pairs_of_tree (tree_at trees p)) → after ≤ before + parts_below marks (p + 1) + pairs_below trees marks (p + 1)
  most_next p before now after few here =
      let next : suc p ≡ p + 1 = omega arith in
      subst (λ k. after ≤ before + parts_below marks k + pairs_below trees marks k) next (omega (arith, few, here))

  pub most_there : (p n before now : ℕ) → p ≤ n → now ≤ before + parts_below marks p + pairs_below trees marks p → now ≤ before + parts_below marks n + pairs_below trees marks n
  most_there p n before now l few =
      let parts = rises (parts_below marks) (λ k. omega arith) p n l in let pairs = rises (pairs_below trees marks) (λ k. omega arith) p n l in omega (arith, few, parts, pairs)

few_parts : (marks : List Bool) (p : ℕ) → parts_below marks p ≤ p
few_parts marks zero = omega arith
few_parts marks (suc p) = one_more (slice_index_or marks p false) (parts_below marks p) p (few_parts marks p)
  where
    one_more : (b : Bool) (m p : ℕ) → m ≤ p → m + (if b then 1 else 0) ≤ suc p
    one_more true m p l = omega arith
    one_more false m p l = omega arith

-- where the parts stand below, there are no more
pub parts_within : (marks : List Bool) (n : ℕ) → AreBelow marks n → (p : ℕ) → parts_below marks p ≤ n
parts_within marks n below zero = omega arith
parts_within marks n below (suc p) = one_more (slice_index_or marks p false) (parts_below marks p) (few_parts marks p) (parts_within marks n below p) (below p)
  where
    one_more : (b : Bool) (m : ℕ) → m ≤ p → m ≤ n → (b ≡ true → p < n) → m + (if b then 1 else 0) ≤ n
    one_more true m l k f = let less = f refl in omega arith
    one_more false m l k f = omega arith

most_within : (trees : List Tree) (marks : List Bool) (top before now : ℕ) → now ≤ before + parts_below marks top + pairs_below trees marks top → (n : ℕ) → AreBelow marks n
    → now ≤ before + n + pairs_below trees marks top
most_within trees marks top before now few n below = let parts = parts_within marks n below top in omega (arith, few, parts)

-- the same of a copy of the marks
pub copied_within : (trees : List Tree) (marks copy : List Bool) (top before now : ℕ) → copy ≡ marks → now ≤ before + parts_below copy top + pairs_below trees copy top → (n : ℕ) → AreBelow marks n
    → now ≤ before + n + pairs_below trees marks top
copied_within trees marks copy top before now same few =
    most_within trees marks top before now (subst (λ ms. now ≤ before + parts_below ms top + pairs_below trees ms top) same few)
