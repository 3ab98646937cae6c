use Rattle.std.proofs.Common.{length}
use Rattle.scope_stack.proofs.LevelSteps.{levels_shown}
use Rattle.scope_stack.proofs.stack.Stack.levels.Goals as goal

pub returns : goal.returns
returns c =
    rw (← c.self.view_is, c.as_slice.ensures.value)
    (levels_shown c.self.inside.table c.self.inside.terms.trees c.self.inside.asserted (length c.self.inside.terms.trees) c.self.inside.facts.levels.items c.self.invariant.stack.as_many c.self.invariant.levels)
