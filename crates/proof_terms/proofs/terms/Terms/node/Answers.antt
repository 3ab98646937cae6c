use Rattle.std.proofs.Common.{◌<◌, length, All, subst, sym}
use Rattle.smt_meaning.specs.Stack.{signature_of}
use Rattle.smt_meaning.specs.declared.nodes.Node.{Node}
use Rattle.smt_meaning.specs.Nodes.{trees_of}
use Rattle.proof_terms.specs.Terms.{ProofTerms}
use Rattle.proof_terms.proofs.TermBounds.{earlier}
use Rattle.proof_terms.proofs.terms.Terms.node.Goals as goal

pub returns-clause-earlier : goal.returns-clause-earlier
returns-clause-earlier c =
    let t = c.self.inside.table in
    let inside : c.args.place < length t.nodes = subst (λ (s : ProofTerms). c.args.place < length s.nodes) (sym c.self.view_is) c.requires in
    subst (λ (n : Node). All (λ i. i < c.args.place) n.arguments) c.node.ensures
    ((earlier (signature_of c.self.inside.stack.now.frames) t.nodes (trees_of t.nodes) c.self.invariant.filed.terms).1 c.args.place inside)
