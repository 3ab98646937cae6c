use Rattle.std.proofs.Common.{◌<◌, length, pos, subst, sym, arith}
use Rattle.scope_stack.specs.Carries.{IsAssumed}
use Rattle.scope_stack.proofs.BackLemmas.{two_levels, withdrawn_is}
use Rattle.scope_stack.proofs.FactLemmas.{facts_popped}
use Rattle.scope_stack.proofs.LevelSteps.{levels_popped}
use Rattle.scope_stack.proofs.StackLemmas.{pop_keeps}
use Rattle.scope_stack.proofs.stack.ScopeStack.withdraw.Goals as goal

pub pop-requires : goal.pop-requires
pop-requires c =
    let lt : 1 < length c.self.inside.table.levels =
    two_levels c.self.inside.global c.self.inside.table c.self.inside.terms.trees c.self.inside.asserted c.requires.1.texts c.requires.1.assumed c.requires.1.old
    (subst (IsAssumed c.requires.1.texts c.requires.1.assumed c.requires.1.old) (sym c.self.view_is) c.requires.1.is_assumed) in
    omega (arith, lt, c.self.invariant.stack.as_many)

pub pop-requires-2 : goal.pop-requires-2
pop-requires-2 c =
    let lt : 1 < length c.self.inside.table.levels =
    two_levels c.self.inside.global c.self.inside.table c.self.inside.terms.trees c.self.inside.asserted c.requires.1.texts c.requires.1.assumed c.requires.1.old
    (subst (IsAssumed c.requires.1.texts c.requires.1.assumed c.requires.1.old) (sym c.self.view_is) c.requires.1.is_assumed) in
    lt

pub invariant_of-self : goal.invariant_of-self
invariant_of-self c =
    let lt : 1 < length c.self.inside.table.levels =
    two_levels c.self.inside.global c.self.inside.table c.self.inside.terms.trees c.self.inside.asserted c.requires.1.texts c.requires.1.assumed c.requires.1.old
    (subst (IsAssumed c.requires.1.texts c.requires.1.assumed c.requires.1.old) (sym c.self.view_is) c.requires.1.is_assumed) in
    rw (c.pop-2.ensures, c.pop.ensures)
    (record {
      stack = pop_keeps (pos 1) c.self.inside.table c.self.inside.terms c.self.inside.asserted c.self.invariant.stack lt;
      facts = facts_popped c.self.inside.table 1 c.self.inside.terms.trees (length c.self.inside.terms.trees) c.self.inside.facts.sorts.items c.self.invariant.facts;
      levels = levels_popped c.self.inside.table 1 c.self.inside.terms.trees (length c.self.inside.terms.trees) c.self.inside.facts.levels.items c.self.invariant.levels;
    })

pub returns : goal.returns
returns c texts assumed t k =
    rw (c.pop-2.ensures, c.pop.ensures, ← c.self.view_is)
    (withdrawn_is c.self.inside.global c.self.inside.table c.self.inside.terms.trees c.self.inside.asserted texts assumed t c.self.invariant.stack.as_many (subst (IsAssumed texts assumed t) (sym c.self.view_is) k))
