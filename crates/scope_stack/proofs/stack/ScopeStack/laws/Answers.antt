use Rattle.std.proofs.Common.{subst}
use Rattle.scope_stack.specs.Shown.{IsLawful}
use Rattle.scope_stack.proofs.stack.ScopeStack.laws.Goals as goal

pub returns : goal.returns
returns c = subst IsLawful c.self.view_is (c.reached_stacks_are_lawful.ensures _ c.self.invariant.stack.reached)
