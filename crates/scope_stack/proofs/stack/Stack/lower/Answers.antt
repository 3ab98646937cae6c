use Rattle.std.proofs.Common.{subst, sym, arith, ◌∙◌}
use Rattle.scope_stack.specs.Raised.{StandsAbove}
use Rattle.scope_stack.proofs.RaiseLemmas.{lowered_is, lowered_keeps, two_levels}
use Rattle.scope_stack.proofs.stack.Stack.lower.Goals as goal

pub pop-requires : goal.pop-requires
pop-requires c =
    let two = two_levels c.self.inside.global c.self.inside.table c.self.inside.terms c.self.inside.asserted c.self.inside.facts.sorts.items c.self.inside.facts.levels.items c.self.invariant
    (subst StandsAbove (sym c.self.view_is) c.requires) in
    omega (arith, two, c.self.invariant.stack.as_many)

pub pop-requires-2 : goal.pop-requires-2
pop-requires-2 c =
    two_levels c.self.inside.global c.self.inside.table c.self.inside.terms c.self.inside.asserted c.self.inside.facts.sorts.items c.self.inside.facts.levels.items c.self.invariant
    (subst StandsAbove (sym c.self.view_is) c.requires)

pub invariant_of-self : goal.invariant_of-self
invariant_of-self c =
    rw (c.pop-2.ensures, c.pop.ensures)
    (lowered_keeps c.self.inside.global c.self.inside.table c.self.inside.terms c.self.inside.asserted c.self.inside.facts.sorts.items c.self.inside.facts.levels.items c.self.invariant
    (subst StandsAbove (sym c.self.view_is) c.requires))

pub returns : goal.returns
returns c xs t e =
    rw (c.pop-2.ensures, c.pop.ensures)
    (lowered_is c.self.inside.global c.self.inside.table c.self.inside.terms c.self.inside.asserted c.self.inside.facts.sorts.items c.self.inside.facts.levels.items c.self.invariant
    xs t (c.self.view_is ∙ e))
