use Rattle.std.proofs.Common.{◌≡◌, ◌∙◌, List, ap, arith, sym, subst}
use Rattle.smt_meaning.specs.declared.terms.Head.{Head}
use Rattle.smt_meaning.specs.Term.{Tree, tree_at}
use Rattle.term_store.specs.Terms.{tree_with}
use Rattle.model_build.specs.Given.{head_of}
use Rattle.theory_combine.proofs.clashes.arguments_at.Goals as goal

pub returns-clause-node : goal.returns-clause-node
returns-clause-node c = λ f symbol.
    let ts = c.args.parts.now.stack.now.trees in
    let i = c.args.place in
    let head = c.node.result.head in
    let is = c.node.result.arguments.now in
    let tree : tree_at ts i ≡ tree_with ts head is = subst (λ (us : List Tree). tree_at us i ≡ tree_with us head is) c.terms.ensures.trees c.node.ensures.tree in
    record {
      within = c.requires;
      tree = subst (λ (h : Head). tree_at ts i ≡ tree_with ts h is) (sym (ap head_of tree) ∙ symbol) tree;
      arguments = λ k d less. (let earlier = c.node.ensures.earlier k d less in let within = c.requires in omega (arith, earlier, within));
    }
