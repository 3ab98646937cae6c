use Rattle.std.proofs.Common.{subst}
use Rattle.scope_stack.specs.Shown.{IsLawful}
use Rattle.scope_stack.proofs.stack.Stack.laws.Goals as goal

pub returns : goal.returns
returns c = subst IsLawful c.self.view_is c.self.invariant.lawful
