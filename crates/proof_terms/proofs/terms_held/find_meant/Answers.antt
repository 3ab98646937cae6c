use Rattle.std.proofs.Common.{subst}
use Rattle.std.specs.Prelude.{IfOk}
use Rattle.proof_terms.specs.TermFacts.{IsHeldAt}
use Rattle.proof_terms.proofs.TermHeldLemmas.{numeral_alone}
use Rattle.proof_terms.proofs.terms_held.find_meant.Goals as goal

pub returns-else-arguments-eq1-clause-ok : goal.returns-else-arguments-eq1-clause-ok
returns-else-arguments-eq1-clause-ok c =
    let hs = c.args.terms.now.trees in
    subst (λ t. IfOk c.find.result (IsHeldAt hs t)) (numeral_alone hs c.args.head c.in-Numeral.number c.args.arguments.now c.in-Numeral.is c.if-arguments-eq1.false) c.find.ensures.ok
