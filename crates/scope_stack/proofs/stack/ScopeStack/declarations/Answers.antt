use Rattle.std.proofs.Common.{sym, ◌∙◌}
use Rattle.scope_stack.proofs.StackLemmas.{signature-stack}
use Rattle.scope_stack.proofs.stack.ScopeStack.declarations.Goals as goal

pub returns : goal.returns
returns c = rw (← c.self.view_is) (c.declarations.ensures ∙ sym (signature-stack c.self.inside.table c.self.inside.terms.trees c.self.inside.asserted))
