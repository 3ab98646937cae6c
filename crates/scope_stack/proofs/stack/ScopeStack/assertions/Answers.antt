use Rattle.scope_stack.proofs.FrameLemmas.{shown_texts, shown_terms}
use Rattle.scope_stack.proofs.stack.ScopeStack.assertions.Goals as goal

pub returns : goal.returns
returns c =
    rw (← c.self.view_is, c.all.ensures)
    (record {
      texts = shown_texts c.self.inside.terms.trees c.self.inside.table.levels c.self.inside.asserted c.self.invariant.stack.as_many;
      terms = shown_terms c.self.inside.terms.trees c.self.inside.table.levels c.self.inside.asserted c.self.invariant.stack.as_many;
      within = c.self.invariant.stack.within;
    })
