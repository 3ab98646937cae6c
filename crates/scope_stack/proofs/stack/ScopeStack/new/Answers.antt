use Rattle.std.proofs.Common.{refl, []}
use Rattle.smt_sorts.specs.Names.{no_names}
use Rattle.scope_stack.proofs.FactLemmas.{no_facts}
use Rattle.scope_stack.proofs.StackLemmas.{new_keeps}
use Rattle.scope_stack.proofs.LevelSteps.{no_levels}
use Rattle.scope_stack.proofs.stack.ScopeStack.new.Goals as goal

pub invariant_of-result : goal.invariant_of-result
invariant_of-result c = rw (c.new.ensures, c.new-2.ensures, c.new-3.ensures, c.new-4.ensures.sorts, c.new-4.ensures.levels) (record { stack = new_keeps 4294967295 refl; facts = no_facts no_names []; levels = no_levels no_names [] })
