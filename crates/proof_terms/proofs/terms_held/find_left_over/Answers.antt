use Rattle.std.proofs.Common.{subst}
use Rattle.std.specs.Prelude.{IfOk}
use Rattle.proof_terms.specs.TermFacts.{IsHeldAt}
use Rattle.proof_terms.proofs.TermHeldLemmas.{operation_alone}
use Rattle.proof_terms.proofs.terms_held.find_left_over.Goals as goal

pub returns-else-arguments-eq2-clause-ok : goal.returns-else-arguments-eq2-clause-ok
returns-else-arguments-eq2-clause-ok c =
    let hs = c.args.terms.now.trees in
    subst (λ t. IfOk c.find.result (IsHeldAt hs t)) (operation_alone hs c.args.operator c.args.arguments.now c.requires.other c.if-arguments-eq2.false) c.find.ensures.ok
