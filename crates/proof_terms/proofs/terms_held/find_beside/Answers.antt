use Rattle.std.proofs.Common.{subst}
use Rattle.smt_meaning.specs.Term.{tree_at}
use Rattle.smt_meaning.specs.TreeShape.{quotient_tree}
use Rattle.proof_terms.specs.TermFacts.{IsHeldAt}
use Rattle.proof_terms.proofs.TermHeldLemmas.{beside_new}
use Rattle.proof_terms.proofs.terms_held.find_beside.Goals as goal

pub returns-in-None-clause-ok : goal.returns-in-None-clause-ok
returns-in-None-clause-ok c =
    let hs = c.args.terms.now.trees in
    let t = tree_at hs c.args.dividend in
    let u = tree_at hs c.args.divisor in
    beside_new hs c.args.operator t u c.requires.complete (subst (IsHeldAt hs (quotient_tree t u)) c.in-None.is c.in_ok-quotient.ensures.ok)
