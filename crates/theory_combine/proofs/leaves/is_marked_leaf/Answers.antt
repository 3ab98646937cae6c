use Rattle.std.proofs.Common.{rules, ◌≡◌, ◌∙◌, ◌<◌, true, false, List, length, sym, ap, subst}
use Rattle.std.specs.Prelude.{slice_index_or}
use Rattle.smt_meaning.specs.declared.values.Sort.TheVariants.{Bool as Truths, Int as Ints}
use Rattle.smt_meaning.specs.Term.{Tree, tree_at}
use Rattle.smt_meaning.specs.CheckAtoms.{is_leaf}
use Rattle.model_eval.specs.Walk.{is_marked}
use Rattle.theory_combine.proofs.Fitting.{in_list, marked_leaf}
use Rattle.theory_combine.proofs.leaves.is_marked_leaf.Goals as goal

pub node-requires : goal.node-requires
node-requires c =
    let marked : is_marked c.args.marks.now c.args.place ≡ true = search rules in
    subst (λ (ts : List Tree). c.args.place < length ts) (sym c.terms.ensures.trees) (in_list c.args.stack.now c.args.marks.now c.args.place c.requires marked)

pub returns-clause-yes : goal.returns-clause-yes
returns-clause-yes c = λ yes.
    let marked : is_marked c.args.marks.now c.args.place ≡ true = search rules in
    let int : slice_index_or c.sorts-sorts.result.now c.args.place Truths ≡ Ints = search rules in
    let leaf : is_leaf (tree_at c.args.stack.now.trees c.args.place) ≡ true =
    subst (λ (ts : List Tree). is_leaf (tree_at ts c.args.place) ≡ true) c.terms.ensures.trees (ap is_leaf c.node.ensures.tree ∙ sym c.is_leaf_head.ensures ∙ yes) in
    marked_leaf c.args.stack.now c.args.marks.now c.sorts-sorts.result.now c.args.place c.requires c.sorts-sorts.ensures marked int leaf

not_both : true ≡ false → ⊥
not_both e = cc

pub returns-then-not-is_marked_place-clause-no : goal.returns-then-not-is_marked_place-clause-no
returns-then-not-is_marked_place-clause-no c = λ no leaf.
    let unmarked : is_marked c.args.marks.now c.args.place ≡ false = search rules in
    absurd (not_both (sym leaf.marked ∙ unmarked))

pub returns-then-not-is_int-clause-no : goal.returns-then-not-is_int-clause-no
returns-then-not-is_int-clause-no c = λ no leaf.
    let other : c.is_int.result ≡ false = search rules in
    c.is_int.ensures.no other (c.sorts-sorts.ensures.each c.args.place Ints leaf.within leaf.is_int)

pub returns-clause-no : goal.returns-clause-no
returns-clause-no c = λ no leaf.
    let here : is_leaf (tree_at c.terms.result.now.trees c.args.place) ≡ true = subst (λ (ts : List Tree). is_leaf (tree_at ts c.args.place) ≡ true) (sym c.terms.ensures.trees) leaf.leaf in
    absurd (not_both (sym here ∙ ap is_leaf c.node.ensures.tree ∙ sym c.is_leaf_head.ensures ∙ no))
