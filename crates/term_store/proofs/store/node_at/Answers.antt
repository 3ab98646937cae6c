use Rattle.std.proofs.Common.{◌≡◌, ℕ, List, get_or, ◌∙◌}
use Rattle.smt_meaning.specs.declared.terms.Head.{Head}
use Rattle.term_store.specs.Nodes.{plain}
use Rattle.term_store.proofs.StoreLemmas.{node_row}
use Rattle.term_store.proofs.store.node_at.Goals as goal

pub returns : goal.returns
returns c d =
    let r : Head × List ℕ = (c.head.result, c.numbers.result.now) in
    let here : plain (get_or c.args.rows.now c.args.place r).0 (get_or c.args.rows.now c.args.place r).1 ≡ plain c.head.result c.numbers.result.now = cc (c.head.ensures r, c.numbers.ensures r) in
    node_row c.args.rows.now c.args.place d r c.requires ∙ here
