use Rattle.std.proofs.Common.{◌≡◌, ◌∙◌, ◌-◌, ◌<◌, length, arith, unsigned_abs, refl, ap, sym}
use Rattle.std.specs.Int.{w128}
use Rattle.std.proofs.lemmas.Int.{to_z-of_z}
use Rattle.smt_meaning.specs.Stack.{depth}
use Rattle.scope_stack.proofs.LevelCommands.{pop_refused}
use Rattle.scope_stack.proofs.FactLemmas.{facts_popped}
use Rattle.scope_stack.proofs.StackLemmas.{depth-stack, pop_is, pop_keeps}
use Rattle.scope_stack.proofs.LevelSteps.{levels_popped}
use Rattle.scope_stack.proofs.stack.ScopeStack.pop.Goals as goal

pub returns-in_default-clause-carried : goal.returns-in_default-clause-carried
returns-in_default-clause-carried c =
    let large : c.depth-depth.result < unsigned_abs c.args.count = rw (to_z-of_z w128 c.args.count c.ranges.count) at c.in_default.ensures.none in
    record { is_judged = pop_refused c.args.self.now (unsigned_abs c.args.count) (rw c.depth-depth.ensures at large); same = refl }

pub pop-requires : goal.pop-requires
pop-requires c =
    let d : depth c.args.self.now.frames ≡ length c.self.inside.table.levels - 1 = ap (λ s. depth s.frames) (sym c.self.view_is) ∙ depth-stack c.self.inside.table c.self.inside.terms.trees c.self.inside.asserted in
    omega (arith, d, c.depth-depth.ensures, c.in-Some.ensures.some.1, c.self.invariant.stack.as_many, c.self.invariant.stack.some)

pub pop-requires-2 : goal.pop-requires-2
pop-requires-2 c =
    let d : depth c.args.self.now.frames ≡ length c.self.inside.table.levels - 1 = ap (λ s. depth s.frames) (sym c.self.view_is) ∙ depth-stack c.self.inside.table c.self.inside.terms.trees c.self.inside.asserted in
    omega (arith, d, c.depth-depth.ensures, c.in-Some.ensures.some.1, c.self.invariant.stack.some)

pub invariant_of-self : goal.invariant_of-self
invariant_of-self c =
    let size : c.in-Some.levels ≡ unsigned_abs c.args.count = rw (to_z-of_z w128 c.args.count c.ranges.count) at c.in-Some.ensures.some.0 in
    let d : depth c.args.self.now.frames ≡ length c.self.inside.table.levels - 1 = ap (λ s. depth s.frames) (sym c.self.view_is) ∙ depth-stack c.self.inside.table c.self.inside.terms.trees c.self.inside.asserted in
    let lt : unsigned_abs c.args.count < length c.self.inside.table.levels = omega (arith, d, c.depth-depth.ensures, c.in-Some.ensures.some.1, c.self.invariant.stack.some, size) in
    rw (c.pop-2.ensures, c.pop.ensures, size) (record {
      stack = pop_keeps c.args.count c.self.inside.table c.self.inside.terms c.self.inside.asserted c.self.invariant.stack lt;
      facts = facts_popped c.self.inside.table (unsigned_abs c.args.count) c.self.inside.terms.trees (length c.self.inside.terms.trees) c.self.inside.facts.sorts.items c.self.invariant.facts;
      levels = levels_popped c.self.inside.table (unsigned_abs c.args.count) c.self.inside.terms.trees (length c.self.inside.terms.trees) c.self.inside.facts.levels.items c.self.invariant.levels;
    })

pub returns-clause-carried : goal.returns-clause-carried
returns-clause-carried c =
    let size : c.in-Some.levels ≡ unsigned_abs c.args.count = rw (to_z-of_z w128 c.args.count c.ranges.count) at c.in-Some.ensures.some.0 in
    let d : depth c.args.self.now.frames ≡ length c.self.inside.table.levels - 1 = ap (λ s. depth s.frames) (sym c.self.view_is) ∙ depth-stack c.self.inside.table c.self.inside.terms.trees c.self.inside.asserted in
    let lt : unsigned_abs c.args.count < length c.self.inside.table.levels = omega (arith, d, c.depth-depth.ensures, c.in-Some.ensures.some.1, c.self.invariant.stack.some, size) in
    rw (c.pop-2.ensures, c.pop.ensures, size, ← c.self.view_is) (pop_is c.args.count c.self.inside.table c.self.inside.terms c.self.inside.asserted c.self.invariant.stack lt)
