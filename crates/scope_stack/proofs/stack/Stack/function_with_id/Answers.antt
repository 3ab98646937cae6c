use Rattle.scope_stack.proofs.StackLemmas.{signature-stack}
use Rattle.scope_stack.proofs.stack.Stack.function_with_id.Goals as goal

pub returns-clause-some : goal.returns-clause-some
returns-clause-some c = rw (← c.self.view_is, signature-stack c.self.inside.table c.self.inside.terms.trees c.self.inside.asserted) c.function_with_id.ensures.some

pub returns-clause-none : goal.returns-clause-none
returns-clause-none c = rw (← c.self.view_is, signature-stack c.self.inside.table c.self.inside.terms.trees c.self.inside.asserted) c.function_with_id.ensures.none
