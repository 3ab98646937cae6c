use Rattle.std.proofs.Common.{ap, map, subst, sym, ◌∙◌}
use Rattle.smt_meaning.specs.StackCommand.{Stack}
use Rattle.scope_stack.specs.Carries.{under}
use Rattle.scope_stack.specs.Inside.{asserted_by}
use Rattle.scope_stack.specs.Raised.{MayAssertAbove}
use Rattle.scope_stack.proofs.RaiseLemmas.{raised_is, raised_keeps, raised_stands}
use Rattle.scope_stack.proofs.stack.Stack.raise.Goals as goal

pub invariant_of-self : goal.invariant_of-self
invariant_of-self c = rw (c.in_err-add_level.ensures.err) c.self.invariant

pub invariant_of-self-2 : goal.invariant_of-self-2
invariant_of-self-2 c =
    rw (c.push.ensures, c.in_ok-add_level.ensures.ok, c.into_vec.ensures)
    (raised_keeps c.self.inside.global c.self.inside.table c.self.inside.terms c.self.inside.asserted c.self.inside.facts.sorts.items c.self.inside.facts.levels.items c.self.invariant
    c.args.assertions (subst (MayAssertAbove c.args.assertions) (sym c.self.view_is) c.requires))

pub returns-clause-ok : goal.returns-clause-ok
returns-clause-ok c =
    rw (c.push.ensures, c.in_ok-add_level.ensures.ok, c.into_vec.ensures)
    (raised_is c.self.inside.global c.self.inside.table c.self.inside.terms c.self.inside.asserted c.self.inside.facts.sorts.items c.self.inside.facts.levels.items c.self.invariant c.args.assertions
    ∙ ap (λ (s : Stack). under (map (asserted_by s.trees) c.args.assertions) s) c.self.view_is)

pub returns-clause-stands : goal.returns-clause-stands
returns-clause-stands c =
    raised_stands c.self.inside.global c.self.inside.table c.self.inside.terms c.self.inside.asserted c.self.inside.facts.sorts.items c.self.inside.facts.levels.items c.self.invariant c.args.assertions _
    (rw (c.push.ensures, c.in_ok-add_level.ensures.ok, c.into_vec.ensures)
    (raised_is c.self.inside.global c.self.inside.table c.self.inside.terms c.self.inside.asserted c.self.inside.facts.sorts.items c.self.inside.facts.levels.items c.self.invariant c.args.assertions))
