use Rattle.std.proofs.Common.{◌∙◌, ap}
use Rattle.smt_meaning.specs.Term.{tree_at}
use Rattle.term_store.specs.Terms.{tree_with}
use Rattle.scope_stack.proofs.FactLemmas.{theory_fact, symbol_fact, numeral_fact, place_fact}
use Rattle.scope_stack.proofs.facts.sort_at.Goals as goal

pub returns-in-Theory : goal.returns-in-Theory
returns-in-Theory c =
    let is = c.node-node.result.arguments.now in
    rw c.made_sort.ensures
    (theory_fact c.args.table.now c.args.terms.now.trees (tree_at c.args.terms.now.trees c.args.id) is c.requires.given c.args.id c.args.sorts.now c.requires.facts c.node-node.ensures.earlier c.in-Theory.operator
    c.branch_sort.result (c.node-node.ensures.tree ∙ ap (λ h. tree_with c.args.terms.now.trees h is) c.in-Theory.is) c.branch_sort.ensures)

pub returns-in-Symbol : goal.returns-in-Symbol
returns-in-Symbol c =
    let is = c.node-node.result.arguments.now in
    symbol_fact c.args.table.now c.args.terms.now.trees (tree_at c.args.terms.now.trees c.args.id) is c.requires.given c.in-Symbol.symbol c.result_sort.result
    (c.node-node.ensures.tree ∙ ap (λ h. tree_with c.args.terms.now.trees h is) c.in-Symbol.is) c.result_sort.ensures

pub returns-in-Numeral : goal.returns-in-Numeral
returns-in-Numeral c =
    let is = c.node-node.result.arguments.now in
    numeral_fact c.args.table.now c.args.terms.now.trees (tree_at c.args.terms.now.trees c.args.id) is c.requires.given _ (c.node-node.ensures.tree ∙ ap (λ h. tree_with c.args.terms.now.trees h is) c.in-Numeral.is)

pub returns-in-Place : goal.returns-in-Place
returns-in-Place c =
    let is = c.node-node.result.arguments.now in
    place_fact c.args.table.now c.args.terms.now.trees (tree_at c.args.terms.now.trees c.args.id) is c.requires.given _ (c.node-node.ensures.tree ∙ ap (λ h. tree_with c.args.terms.now.trees h is) c.in-Place.is)
