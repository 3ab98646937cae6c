use Rattle.std.proofs.Common.{◌∙◌, ap}
use Rattle.smt_meaning.specs.StackCommand.{Stack}
use Rattle.scope_stack.specs.Trials.{Trial}
use Rattle.scope_stack.proofs.ThinLemmas.{seen_again, marked_again, whole_is}
use Rattle.scope_stack.proofs.trial.Thinned.trial.Goals as goal

pub invariant_of-stack : goal.invariant_of-stack
invariant_of-stack c =
    seen_again c.stack.inside.table c.stack.inside.terms c.stack.inside.asserted c.stack.inside.facts.sorts.items c.stack.inside.facts.levels.items c.stack.invariant c.self.inside.stack
    c.self.inside.asserted c.self.inside.kept.items c.stack.view_is c.self.invariant

pub invariant_of-result : goal.invariant_of-result
invariant_of-result c =
    marked_again c.stack.inside.table c.stack.inside.terms c.stack.inside.asserted c.stack.inside.facts.sorts.items c.stack.inside.facts.levels.items c.stack.invariant c.self.inside.stack
    c.self.inside.asserted c.self.inside.kept.items c.stack.view_is c.self.invariant

pub returns : goal.returns
returns c =
    ap (λ (s : Stack). the_trial s)
    (whole_is c.stack.inside.table c.stack.inside.terms c.stack.inside.asserted c.stack.inside.facts.sorts.items c.stack.inside.facts.levels.items c.stack.invariant c.self.inside.stack
    c.self.inside.asserted c.self.inside.kept.items c.stack.view_is c.self.invariant)
    ∙ c.self.view_is
  where
    the_trial : Stack → Trial
    the_trial s = record { stack = s; kept = c.self.inside.kept.items }
