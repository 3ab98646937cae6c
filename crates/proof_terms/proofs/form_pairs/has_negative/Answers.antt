use Rattle.std.proofs.Common.{◌*◌, ◌∙◌, below_more, arith}
use Rattle.std.proofs.lemmas.List.{get_or_default}
use Rattle.proof_terms.proofs.form_pairs.has_negative.Goals as goal

pub loop-code-preserved : goal.loop-code-preserved
loop-code-preserved c = below_more _ _ c.loop-code.invariant (c.is_other_negative.ensures.no c.if-is_other_negative.false)

pub returns-clause-no : goal.returns-clause-no
returns-clause-no c = λ _ n other h. c.loop-code.invariant h.0 (omega (arith, h.1, c.loop-code-test.false)) n other (get_or_default c.args.codes.now h.0 0 (n * 2) h.1 ∙ h.2)
