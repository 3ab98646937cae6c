use Rattle.scope_stack.proofs.SeenLemmas.{seen_of_kept}
use Rattle.scope_stack.proofs.stack.ScopeStack.into_stack.Goals as goal

pub invariant_of-result : goal.invariant_of-result
invariant_of-result c =
    seen_of_kept c.reached_stacks_are_lawful.ensures c.self.inside.table c.self.inside.terms c.self.inside.asserted c.self.inside.facts.sorts.items c.self.inside.facts.levels.items c.self.invariant
