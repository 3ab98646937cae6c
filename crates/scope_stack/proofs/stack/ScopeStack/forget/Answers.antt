use Rattle.std.proofs.Common.{subst, sym}
use Rattle.scope_stack.specs.Carries.{IsAsked, IsAfterQuestion}
use Rattle.scope_stack.proofs.FactLemmas.{facts_taken}
use Rattle.scope_stack.proofs.BackLemmas.{forgotten_is, forgotten_keeps}
use Rattle.scope_stack.proofs.LevelSteps.{levels_taken}
use Rattle.scope_stack.proofs.stack.ScopeStack.forget.Goals as goal

pub invariant_of-self : goal.invariant_of-self
invariant_of-self c =
    rw (c.cut.ensures, c.cut-2.ensures.sorts, c.cut-2.ensures.levels)
    (record {
      stack = forgotten_keeps c.self.inside.global c.tree_equality_decides.ensures c.trees_are_in_order.ensures c.parts_are_among_the_trees.ensures c.self.inside.table c.self.inside.terms c.self.inside.asserted c.args.terms
          c.self.invariant.stack (subst (IsAfterQuestion c.args.terms) (sym c.self.view_is) c.requires);
      facts = facts_taken c.self.inside.table c.self.inside.terms.trees c.args.terms c.self.inside.facts.sorts.items c.self.invariant.facts;
      levels = levels_taken c.self.inside.table c.self.inside.terms.trees c.args.terms c.self.inside.facts.levels.items c.self.invariant.levels;
    })

pub returns : goal.returns
returns c texts asked t e k =
    rw c.cut.ensures
    (forgotten_is c.self.inside.global c.tree_equality_decides.ensures c.trees_are_in_order.ensures c.parts_are_among_the_trees.ensures c.self.inside.table c.self.inside.terms c.self.inside.asserted c.args.terms
    texts asked t c.self.invariant.stack e (subst (IsAsked texts asked t) (sym c.self.view_is) k))
