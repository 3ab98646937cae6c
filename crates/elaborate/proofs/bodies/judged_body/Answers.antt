use Rattle.std.proofs.Common.{List, ap, sym, subst, refl, ◌∙◌}
use Rattle.smt_meaning.specs.Nodes.{joined}
use Rattle.smt_meaning.specs.Term.{Tree, tree_at}
use Rattle.elaborate.specs.Own.{IsLeft, are_own_nodes}
use Rattle.elaborate.proofs.Left.{rebuilt, nodes_after, left_is}
use Rattle.elaborate.proofs.bodies.judged_body.Goals as goal

pub returns-clause-body : goal.returns-clause-body
returns-clause-body c =
    c.new.ensures
    ∙ ap (λ (us : List Tree). record { terms = us; term = tree_at us c.args.value.id })
    (c.in_ok-shared.ensures ∙ c.in_ok-terms.ensures ∙ rebuilt c.args.store.trees c.args.apart c.in_ok-nodes.nodes.items c.requires.apart c.in_ok-nodes.ensures.trees)

pub returns-clause-workshop : goal.returns-clause-workshop
returns-clause-workshop c =
    let build = rebuilt c.args.store.trees c.args.apart c.in_ok-nodes.nodes.items c.requires.apart c.in_ok-nodes.ensures.trees in
    subst (IsLeft c.new.result) (sym c.left.ensures)
    (left_is c.are_own-own.result (record { store = c.args.store; terms = c.in_ok-terms.terms; parameters = c.args.apart.parameters; constant = c.args.value.constant; linear = c.args.value.linear }) c.new.result c.args.apart c.args.store.trees c.in_ok-nodes.nodes.items (joined c.layers.result.now) c.args.value
    (c.are_own-own.ensures ∙ ap (are_own_nodes c.args.apart.parameters) c.deref.ensures.value) c.requires.apart c.requires.value refl (c.in_ok-terms.ensures ∙ build) refl refl refl
    (c.new.ensures ∙ ap (λ (us : List Tree). record { terms = us; term = tree_at us c.args.value.id }) (c.in_ok-shared.ensures ∙ c.in_ok-terms.ensures ∙ build))
    build (nodes_after c.args.store.trees c.args.apart c.in_ok-nodes.nodes.items c.requires.apart c.in_ok-nodes.ensures.earlier) (sym (c.in_ok-terms.ensures ∙ build) ∙ c.layers.ensures.trees) c.layers.ensures.earlier c.len.ensures.different)
