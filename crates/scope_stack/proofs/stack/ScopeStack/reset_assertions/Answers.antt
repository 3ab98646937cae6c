use Rattle.std.proofs.Common.{[], ◌∷◌, true, false, length, subst, sym}
use Rattle.smt_sorts.specs.Names.{based, cleared}
use Rattle.scope_stack.specs.Inside.{IsStack}
use Rattle.scope_stack.proofs.FactLemmas.{facts_based, facts_cleared}
use Rattle.scope_stack.proofs.StackLemmas.{based_keeps, clear_keeps}
use Rattle.scope_stack.proofs.LevelSteps.{levels_based, levels_cleared}
use Rattle.scope_stack.proofs.stack.ScopeStack.reset_assertions.Goals as goal

pub invariant_of-self : goal.invariant_of-self
invariant_of-self c =
    let h : IsStack true c.self.inside.table c.self.inside.terms c.self.inside.asserted =
    subst (λ b. IsStack b c.self.inside.table c.self.inside.terms c.self.inside.asserted) c.if-self.true c.self.invariant.stack in
    rw (c.clear_to_base.ensures, c.clear.ensures) (record {
      stack = subst (λ b. IsStack b (based c.self.inside.table) c.self.inside.terms ([] ∷ [])) (sym c.if-self.true) (based_keeps c.self.inside.table c.self.inside.terms c.self.inside.asserted h);
      facts =
          facts_based c.self.inside.table c.self.inside.terms.trees (length c.self.inside.terms.trees) c.self.inside.facts.sorts.items c.ids.ensures.table.ids_apart c.self.invariant.facts;
      levels = levels_based c.self.inside.table c.self.inside.terms.trees (length c.self.inside.terms.trees) c.self.inside.facts.levels.items c.self.invariant.levels;
    })

pub invariant_of-self-else-self : goal.invariant_of-self-else-self
invariant_of-self-else-self c =
    let h : IsStack false c.self.inside.table c.self.inside.terms c.self.inside.asserted =
    subst (λ b. IsStack b c.self.inside.table c.self.inside.terms c.self.inside.asserted) c.if-self.false c.self.invariant.stack in
    rw (c.clear-else-self.ensures, c.clear.ensures) (record {
      stack = subst (λ b. IsStack b (cleared c.self.inside.table) c.self.inside.terms ([] ∷ [])) (sym c.if-self.false) (clear_keeps c.self.inside.table c.self.inside.terms c.self.inside.asserted h);
      facts = facts_cleared c.self.inside.table c.self.inside.terms.trees (length c.self.inside.terms.trees) c.self.inside.facts.sorts.items c.self.invariant.facts;
      levels = levels_cleared c.self.inside.table c.self.inside.terms.trees (length c.self.inside.terms.trees) c.self.inside.facts.levels.items c.self.invariant.levels;
    })
