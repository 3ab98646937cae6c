use Rattle.std.proofs.Common.{◌≡◌, ◌∙◌, is_err, true, sym, ap}
use Rattle.term_store.specs.Terms.{Terms, tree_with}
use Rattle.proof_terms.proofs.TermNodeLemmas.{at_err}
use Rattle.proof_terms.proofs.TermEntering.{forgotten}
use Rattle.proof_terms.proofs.terms_table.enter.Goals as goal

pub returns-then-is_err-clause-err : goal.returns-then-is_err-clause-err
returns-then-is_err-clause-err c =
    let d = c.args.distinct.now in
    let failed : is_err c.add_node.result ≡ true = sym c.is_err.ensures.value ∙ c.if-is_err.true in
    let same = at_err c.add_node.result _ failed c.add_node.ensures.err in
    let back =
    forgotten d.store.trees d.facts.items c.intern.new.distinct.store.trees c.intern.new.distinct.facts.items (tree_with d.store.trees c.args.head c.args.seen.now) c.args.fact c.in_ok-place.place c.len-count.result c.in_ok-place.ensures.ok
    c.requires.count c.len-count.ensures.value in
    (same.0, same.1, ap (λ (s : Terms). s.trees) c.forget.ensures.store ∙ back.0, c.forget.ensures.facts ∙ back.1)
