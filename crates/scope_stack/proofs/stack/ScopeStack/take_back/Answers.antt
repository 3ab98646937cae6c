use Rattle.std.proofs.Common.{◌<◌, length, pos, subst, sym, arith}
use Rattle.smt_sorts.specs.Names.{without_levels}
use Rattle.scope_stack.specs.Carries.{IsAssumed, IsUnderAssumptions}
use Rattle.scope_stack.proofs.BackLemmas.{two_levels, taken_back_is, taken_back_keeps}
use Rattle.scope_stack.proofs.FactLemmas.{facts_taken, facts_popped}
use Rattle.scope_stack.proofs.LevelSteps.{levels_popped, levels_taken}
use Rattle.scope_stack.proofs.StackLemmas.{pop_keeps}
use Rattle.scope_stack.proofs.stack.ScopeStack.take_back.Goals as goal

pub pop-requires : goal.pop-requires
pop-requires c =
    let lt : 1 < length c.self.inside.table.levels =
    two_levels c.self.inside.global c.self.inside.table c.self.inside.terms.trees c.self.inside.asserted c.requires.texts c.requires.assumed c.requires.old
    (subst (IsAssumed c.requires.texts c.requires.assumed c.requires.old) (sym c.self.view_is) c.requires.is_assumed) in
    omega (arith, lt, c.self.invariant.stack.as_many)

pub pop-requires-2 : goal.pop-requires-2
pop-requires-2 c =
    let lt : 1 < length c.self.inside.table.levels =
    two_levels c.self.inside.global c.self.inside.table c.self.inside.terms.trees c.self.inside.asserted c.requires.texts c.requires.assumed c.requires.old
    (subst (IsAssumed c.requires.texts c.requires.assumed c.requires.old) (sym c.self.view_is) c.requires.is_assumed) in
    lt

pub invariant_of-self : goal.invariant_of-self
invariant_of-self c =
    let lt : 1 < length c.self.inside.table.levels =
    two_levels c.self.inside.global c.self.inside.table c.self.inside.terms.trees c.self.inside.asserted c.requires.texts c.requires.assumed c.requires.old
    (subst (IsAssumed c.requires.texts c.requires.assumed c.requires.old) (sym c.self.view_is) c.requires.is_assumed) in
    rw (c.pop-2.ensures, c.pop.ensures, c.cut.ensures, c.cut-2.ensures.sorts, c.cut-2.ensures.levels)
    (record {
      stack =
          taken_back_keeps c.self.inside.global c.tree_equality_decides.ensures c.trees_are_in_order.ensures c.parts_are_among_the_trees.ensures c.self.inside.table c.self.inside.terms c.self.inside.asserted c.args.terms
          (pop_keeps (pos 1) c.self.inside.table c.self.inside.terms c.self.inside.asserted c.self.invariant.stack lt) c.self.invariant.stack.as_many
          (subst (IsUnderAssumptions c.args.terms) (sym c.self.view_is) c.requires);
      facts =
          facts_taken (without_levels 1 c.self.inside.table) c.self.inside.terms.trees c.args.terms c.self.inside.facts.sorts.items
          (facts_popped c.self.inside.table 1 c.self.inside.terms.trees (length c.self.inside.terms.trees) c.self.inside.facts.sorts.items c.self.invariant.facts);
      levels =
          levels_taken (without_levels 1 c.self.inside.table) c.self.inside.terms.trees c.args.terms c.self.inside.facts.levels.items
          (levels_popped c.self.inside.table 1 c.self.inside.terms.trees (length c.self.inside.terms.trees) c.self.inside.facts.levels.items c.self.invariant.levels);
    })

pub returns : goal.returns
returns c texts assumed t e k =
    let lt : 1 < length c.self.inside.table.levels =
    two_levels c.self.inside.global c.self.inside.table c.self.inside.terms.trees c.self.inside.asserted c.requires.texts c.requires.assumed c.requires.old
    (subst (IsAssumed c.requires.texts c.requires.assumed c.requires.old) (sym c.self.view_is) c.requires.is_assumed) in
    rw (c.pop-2.ensures, c.pop.ensures, c.cut.ensures)
    (taken_back_is c.self.inside.global c.tree_equality_decides.ensures c.trees_are_in_order.ensures c.parts_are_among_the_trees.ensures c.self.inside.table c.self.inside.terms c.self.inside.asserted c.args.terms
    texts assumed t (pop_keeps (pos 1) c.self.inside.table c.self.inside.terms c.self.inside.asserted c.self.invariant.stack lt) c.self.invariant.stack.as_many e
    (subst (IsAssumed texts assumed t) (sym c.self.view_is) k))
