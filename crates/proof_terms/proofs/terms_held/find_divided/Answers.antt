use Rattle.std.proofs.Common.{subst, get_or}
use Rattle.std.specs.Prelude.{None}
use Rattle.std.proofs.lemmas.List.{get_or_default}
use Rattle.smt_meaning.specs.Term.{tree_at}
use Rattle.smt_meaning.specs.TreeShape.{quotient_tree}
use Rattle.term_store.specs.Terms.{Terms}
use Rattle.proof_terms.specs.TermFacts.{IsHeldAt}
use Rattle.proof_terms.proofs.TermHeldLemmas.{divided_nowhere}
use Rattle.proof_terms.proofs.terms_held.find_divided.Goals as goal

pub returns-in-None-clause-ok : goal.returns-in-None-clause-ok
returns-in-None-clause-ok c =
    let hs = c.args.terms.now.trees in
    let us = c.loop-divisor.terms.trees in
    let place = c.loop-divisor.place in
    let ds = c.args.divisors.now in
    let i = c.loop-divisor.divisor-index in
    let x = get_or ds i 0 in
    divided_nowhere hs (tree_at hs c.args.dividend) (tree_at hs place) ds i 0 c.requires.complete c.loop-divisor-test.true c.loop-divisor.invariant.divided
    (subst (λ (s : Terms). IsHeldAt s.trees (quotient_tree (tree_at s.trees place) (tree_at s.trees x)) None) c.loop-divisor.invariant.same
    (subst (IsHeldAt us (quotient_tree (tree_at us place) (tree_at us x))) c.in-None.is
    (subst (λ j. IsHeldAt us (quotient_tree (tree_at us place) (tree_at us j)) c.in_ok-quotient.field-0) (get_or_default ds i _ 0 c.loop-divisor-test.true) c.in_ok-quotient.ensures.ok)))
