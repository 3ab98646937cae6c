use Rattle.std.proofs.Common.{◌∙◌, ◌-◌, subst, drop, length, arith, length-drop}
use Rattle.std.proofs.lemmas.List.{take_all}
use Rattle.smt_meaning.specs.StackCommand.{Stack}
use Rattle.scope_stack.specs.Shown.{AreAsserted}
use Rattle.goal_search.proofs.Unders.{answered_under}
use Rattle.goal_search.proofs.assuming.answered.Goals as goal

pub returns-clause-answered : goal.returns-clause-answered
returns-clause-answered g c =
    answered_under c.args.settings.now.workers c.args.settings.now.units c.args.below c.args.stack.now c.in_ok-answer.answer c.assertions.result.now c.in_ok-assumptions.assumptions
    c.in_ok-answer.ensures.checked
    (subst (λ (t : Stack). AreAsserted t c.assertions.result.now) c.checked.ensures.stays c.assertions.ensures)
    (c.in_ok-assumptions.ensures ∙ take_all (length c.assertions.result.now - c.args.below) (drop c.args.below c.assertions.result.now) (omega (arith, length-drop c.args.below c.assertions.result.now)))
    (omega (arith, c.depth.ensures, c.depth.type_inv)) c.laws.ensures
