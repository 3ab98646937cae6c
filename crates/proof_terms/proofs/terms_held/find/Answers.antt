use Rattle.std.proofs.Common.{ap}
use Rattle.std.specs.Prelude.{Err}
use Rattle.term_store.specs.Terms.{tree_with}
use Rattle.proof_terms.proofs.TermHeldLemmas.{not_among_is_new}
use Rattle.proof_terms.proofs.terms_held.find.Goals as goal

pub returns-in-Err-Full-clause-ok : goal.returns-in-Err-Full-clause-ok
returns-in-Err-Full-clause-ok c =
    let full = c.in-Err-Full.ensures.full.0 (ap Err c.in-Err-Full.field-0-is) in
    not_among_is_new c.args.terms.now.trees (tree_with c.args.terms.now.trees c.args.head c.args.arguments.now) full.1
