use Rattle.std.proofs.Common.{sym, ◌∙◌}
use Rattle.scope_stack.proofs.PieceLemmas.{all-pieces}
use Rattle.scope_stack.proofs.asserted.Asserted.all.Goals as goal

pub returns : goal.returns
returns c = rw (← c.self.view_is) (c.as_slice.ensures.value ∙ sym (all-pieces 0 c.self.inside.items.items c.self.inside.starts.items))
