use Rattle.std.proofs.Common.{◌*◌, ◌∙◌, below_more, arith}
use Rattle.std.proofs.lemmas.List.{get_or_default}
use Rattle.proof_terms.proofs.form_values.has_clash.Goals as goal

pub loop-code-preserved : goal.loop-code-preserved
loop-code-preserved c = below_more _ _ c.loop-code.invariant (c.is_negated.ensures.none c.if-is_negated.false)

pub returns-clause-none : goal.returns-clause-none
returns-clause-none c = λ _ n h k. c.loop-code.invariant h.0 (omega (arith, h.1, c.loop-code-test.false)) n (get_or_default c.args.codes.now h.0 0 (n * 2) h.1 ∙ h.2) k
