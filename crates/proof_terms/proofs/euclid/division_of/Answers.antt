use Rattle.std.proofs.Common.{◌≡◌, ◌++◌, ◌∙◌, List, ℕ, sym, ap, subst}
use Rattle.std.specs.Prelude.{IfOk}
use Rattle.smt_meaning.specs.declared.nodes.Node.{Node}
use Rattle.proof_terms.specs.EuclidRows.{IsDivisionOrNone}
use Rattle.proof_terms.proofs.euclid.division_of.Goals as goal

pub returns-clause-ok : goal.returns-clause-ok
returns-clause-ok c =
    let ts = c.args.terms.now.trees in
    let js = c.node-node.result.arguments.now in
    let same : c.deref.result.now ≡ js = c.deref.ensures.value ∙ c.in_ok-extend_from_slice.ensures.items ∙ ap (λ xs. xs ++ js) c.new-arguments.ensures.items in
    subst (λ (n : Node). IfOk c.division_with.result (IsDivisionOrNone ts c.args.place n.head n.arguments)) (sym c.node-node.ensures.node)
    (subst (λ (xs : List ℕ). IfOk c.division_with.result (IsDivisionOrNone ts c.args.place c.node-node.result.head xs)) same (c.division_with.ensures.ok c.args.place))
