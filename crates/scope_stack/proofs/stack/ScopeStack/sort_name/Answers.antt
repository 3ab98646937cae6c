use Rattle.scope_stack.proofs.StackLemmas.{signature-stack}
use Rattle.scope_stack.proofs.stack.ScopeStack.sort_name.Goals as goal

pub returns : goal.returns
returns c = rw (← c.self.view_is, signature-stack c.self.inside.table c.self.inside.terms.trees c.self.inside.asserted) c.sort_name.ensures
