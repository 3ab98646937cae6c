use Rattle.std.proofs.Common.{[]}
use Rattle.smt_sorts.specs.Names.{no_names}
use Rattle.scope_stack.proofs.FactLemmas.{no_facts}
use Rattle.scope_stack.proofs.StackLemmas.{new_keeps}
use Rattle.scope_stack.proofs.LevelSteps.{no_levels}
use Rattle.scope_stack.proofs.stack.ScopeStack.reset.Goals as goal

pub invariant_of-self : goal.invariant_of-self
invariant_of-self c = rw (c.reset.ensures, c.cut.ensures, c.cut-2.ensures.sorts, c.cut-2.ensures.levels, c.clear.ensures) (record { stack = new_keeps c.self.inside.terms.limit c.self.invariant.stack.limit; facts = no_facts no_names []; levels = no_levels no_names [] })
