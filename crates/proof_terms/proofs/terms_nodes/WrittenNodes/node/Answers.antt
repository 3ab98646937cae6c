use Rattle.std.proofs.Common.{◌<◌, length, arith, sym, ap, ◌∙◌}
use Rattle.proof_meaning.specs.Proof.{node_at}
use Rattle.proof_terms.proofs.TermNodeLemmas.{length-written, written_row}
use Rattle.proof_terms.proofs.terms_nodes.WrittenNodes.node.Goals as goal

pub head-requires : goal.head-requires
head-requires c = omega (arith, length-written c.self.inside.rows, ap length c.self.view_is)

pub numbers-requires : goal.numbers-requires
numbers-requires c = omega (arith, length-written c.self.inside.rows, ap length c.self.view_is)

pub returns : goal.returns
returns c =
    let rows = c.self.inside.rows in
    let short : c.args.place < length rows = omega (arith, length-written rows, ap length c.self.view_is) in
    ap (λ ns. node_at ns c.args.place) (sym c.self.view_is) ∙ written_row rows c.args.place _ c.head.result c.numbers.result.now short c.head.ensures c.numbers.ensures
