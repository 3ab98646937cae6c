use Rattle.scope_stack.proofs.ParameterSteps.{found_before, never_before}
use Rattle.scope_stack.proofs.judge.is_before.Goals as goal

pub returns-in-Some : goal.returns-in-Some
returns-in-Some c = found_before c.args.name.now c.args.before.now _ c.in-Some.ensures.some

pub returns-in-None : goal.returns-in-None
returns-in-None c = never_before c.args.name.now c.args.before.now c.in-None.ensures.none
