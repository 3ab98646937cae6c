use Rattle.proof_terms.proofs.TermNodeLemmas.{written_push}
use Rattle.proof_terms.proofs.terms_nodes.WrittenNodes.push.Goals as goal

pub returns-clause-ok : goal.returns-clause-ok
returns-clause-ok c = rw (c.in_ok-push.ensures.ok, ← c.self.view_is) (written_push c.self.inside.rows c.args.head c.args.arguments.now)
