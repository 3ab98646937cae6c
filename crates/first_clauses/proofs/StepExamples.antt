-- Steps of two small stacks.
use Rattle.std.proofs.Common.{◌≡◌, ℕ, ◌<◌, Bool, true, false, List, [], ◌∷◌, length, nat_eq, if◌then◌else◌, refl, sym, ap, subst, arith}
use Rattle.std.proofs.lemmas.List.Elements.{All-nil}
use Rattle.smt_meaning.specs.declared.values.Sort.{Sort}
use Rattle.smt_meaning.specs.declared.values.Sort.TheVariants.{Bool as Truths, Int as Ints, Free}
use Rattle.smt_meaning.specs.declared.terms.Operator.TheVariants.{True, Distinct}
use Rattle.smt_meaning.specs.declared.terms.Head.TheVariants.{Theory}
use Rattle.smt_meaning.specs.Term.{Tree, node, none, more, tree_at}
use Rattle.smt_meaning.specs.StackCommand.{Stack}
use Rattle.check_atoms.specs.AssertedDistinct.{IsAssertedDistinct}
use Rattle.check_atoms.specs.OfStack.{IsNode}
use Rattle.order_clauses.specs.Clauses.{sort_at}
use Rattle.order_clauses.specs.Counted.{pairs_among, pairs_by_sort, pairs_of_part}
use Rattle.first_clauses.specs.Counted.{pairs_of_tree, pairs_of_node, TakesStepsBelow}
use Rattle.first_clauses.proofs.CheckClausesKeeping.{heads_same}

pub of_four : (t : Tree) → pairs_of_tree (node (Theory Distinct) (more t (more t (more t (more t none))))) ≡ 6
unfolding pairs_among
of_four t = refl

either : (b : Bool) (m n : ℕ) → m ≡ 0 → n ≡ 0 → (if b then m else n) ≡ 0
either true m n e f = e
either false m n e f = f

no_pairs_of : (s : Sort) (n : ℕ) → pairs_by_sort s n 0 ≡ 0
no_pairs_of Truths n = refl
no_pairs_of Ints n = refl
no_pairs_of (Free s) n = either (nat_eq n 2) 0 0 refl refl

pairs_of_true : (sorts : List Sort) (is : List ℕ) → pairs_of_part sorts True is ≡ 0
pairs_of_true sorts [] = refl
pairs_of_true sorts (i ∷ is) = no_pairs_of (sort_at sorts i) (length (i ∷ is))

true_node : (trees : List Tree) → trees ≡ node (Theory True) none ∷ [] → IsNode trees 0 (Theory True) []
true_node trees e = record {
  within = subst (λ ts. 0 < length ts) (sym e) (omega arith);
  tree = ap (λ ts. tree_at ts 0) e;
  arguments = All-nil (λ i. i < length trees);
}

pub of_true : (s : Stack) (sorts : List Sort) → s.trees ≡ node (Theory True) none ∷ [] → TakesStepsBelow s (true ∷ []) sorts 1 0 1
of_true s sorts e = (
  0,
  refl,
  record {
    part = λ h is m n.
        let heads = heads_same s.trees 0 (Theory True) h [] is (true_node s.trees e).tree n.tree in
        let pairs = subst (λ k. pairs_of_node sorts k is ≡ 0) heads (pairs_of_true sorts is) in
        record { asserted = λ alone. refl; others = λ others. omega (arith, pairs) };
    other = λ not. absurd (not refl);
  },
)

pub not_none : (s : Stack) (sorts : List Sort) → s.trees ≡ node (Theory True) none ∷ [] → TakesStepsBelow s (true ∷ []) sorts 1 0 0 → ⊥
not_none s sorts e t =
    let here = t.2.part (Theory True) [] refl (true_node s.trees e) in
    let others : IsAssertedDistinct s 0 (Theory True) [] → ⊥ = λ alone. absurd (omega (arith, here.asserted alone)) in
    absurd (omega (arith, here.others others))
