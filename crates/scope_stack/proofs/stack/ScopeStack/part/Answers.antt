use Rattle.std.proofs.Common.{◌∙◌, subst, IfSome}
use Rattle.scope_stack.specs.Seen.{IsFew}
use Rattle.scope_stack.proofs.SeenLemmas.{assertions_of_kept}
use Rattle.scope_stack.proofs.CopyLemmas.{seen_of_few, part_of_few, whole_of_few}
use Rattle.scope_stack.proofs.stack.ScopeStack.part.Goals as goal

pub invariant_of-stack : goal.invariant_of-stack
invariant_of-stack c =
    seen_of_few c.self.inside.table c.self.inside.terms c.in-Ok-Some.few.terms c.self.inside.asserted c.in-Ok-Some.few.asserted c.in-Ok-Some.few.facts.sorts.items c.in-Ok-Some.few.facts.levels.items
    (assertions_of_kept c.self.inside.table c.self.inside.terms c.self.inside.asserted c.self.invariant.stack)
    (c.reached_stacks_are_lawful.ensures _ c.self.invariant.stack.reached)
    (subst (λ found. IfSome found (λ f. IsFew c.self.inside.table c.self.inside.terms.trees c.self.inside.asserted f.terms f.asserted f.facts.sorts.items f.facts.levels.items)) c.in-Ok-Some.field-0-is c.in-Ok-Some.ensures)

pub invariant_of-result : goal.invariant_of-result
invariant_of-result c =
    part_of_few c.self.inside.table c.self.inside.terms c.in-Ok-Some.few.terms c.self.inside.asserted c.in-Ok-Some.few.asserted c.self.inside.facts.sorts.items c.in-Ok-Some.few.facts.sorts.items
    c.self.inside.facts.levels.items c.in-Ok-Some.few.facts.levels.items c.self.invariant
    (subst (λ found. IfSome found (λ f. IsFew c.self.inside.table c.self.inside.terms.trees c.self.inside.asserted f.terms f.asserted f.facts.sorts.items f.facts.levels.items)) c.in-Ok-Some.field-0-is c.in-Ok-Some.ensures)

pub returns-in-Ok-Some-clause-ok : goal.returns-in-Ok-Some-clause-ok
returns-in-Ok-Some-clause-ok c =
    whole_of_few c.self.inside.table c.self.inside.terms c.in-Ok-Some.few.terms c.self.inside.asserted c.in-Ok-Some.few.asserted ∙ c.self.view_is
