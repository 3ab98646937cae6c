use Rattle.std.proofs.Common.{subst}
use Rattle.std.specs.Prelude.{ℤ, None}
use mir.Syntax.{w128}
use mir.Val.{to_z, of_z}
use Rattle.std.proofs.lemmas.Int.{to_z-of_z}
use Rattle.smt_meaning.specs.declared.terms.Head.TheVariants.{Numeral}
use Rattle.smt_meaning.specs.declared.terms.Operator.TheVariants.{Divisible}
use Rattle.smt_meaning.specs.Term.{Tree, node, none, tree_at}
use Rattle.proof_terms.specs.TermFacts.{IsHeldAt}
use Rattle.proof_terms.proofs.TermHeldLemmas.{divisor_new}
use Rattle.proof_terms.proofs.terms_held.find_divisibility.Goals as goal

pub returns-in-None-clause-ok : goal.returns-in-None-clause-ok
returns-in-None-clause-ok c =
    let hs = c.args.terms.now.trees in
    let u : Tree = node (Numeral c.args.number) none in
    divisor_new hs Divisible (tree_at hs c.args.dividend) u c.requires.complete
    (subst (λ (m : ℤ). IsHeldAt hs (node (Numeral m) none) None) (to_z-of_z w128 c.args.number c.ranges.number)
    (subst (IsHeldAt hs (node (Numeral (to_z w128 (of_z w128 c.args.number))) none)) c.in-None.is c.in_ok-divisor.ensures.ok))
