use Rattle.std.proofs.Common.{◌≡◌, ◌∙◌, ◌+◌, ◌-◌, ◌<◌, ◌≤◌, length, arith, unsigned_abs, refl, ap, sym}
use Rattle.std.specs.Int.{w128}
use Rattle.std.proofs.lemmas.Int.{to_z-of_z}
use Rattle.smt_meaning.specs.Stack.{depth}
use Rattle.smt_meaning.specs.StackCommand.{most_levels}
use Rattle.scope_stack.proofs.LevelCommands.{push_refused}
use Rattle.scope_stack.proofs.FactLemmas.{facts_pushed}
use Rattle.scope_stack.proofs.StackLemmas.{depth-stack, push_is, push_keeps}
use Rattle.scope_stack.proofs.LevelSteps.{levels_pushed}
use Rattle.scope_stack.proofs.stack.ScopeStack.push.Goals as goal

pub returns-in_default : goal.returns-in_default
returns-in_default c =
    let large : 65535 - c.depth-room.result < unsigned_abs c.args.count = rw (to_z-of_z w128 c.args.count c.ranges.count) at c.in_default.ensures.none in
    let d : depth c.args.self.now.frames ≡ c.depth-room.result = sym c.depth-room.ensures in
    record { is_judged = push_refused c.args.self.now (unsigned_abs c.args.count) (omega (arith, large, d)); same = refl }

pub invariant_of-self-2 : goal.invariant_of-self-2
invariant_of-self-2 c =
    let size : c.in-Some.levels ≡ unsigned_abs c.args.count = rw (to_z-of_z w128 c.args.count c.ranges.count) at c.in-Some.ensures.some.0 in
    let d : depth c.args.self.now.frames ≡ length c.self.inside.table.levels - 1 = ap (λ s. depth s.frames) (sym c.self.view_is) ∙ depth-stack c.self.inside.table c.self.inside.terms.trees c.self.inside.asserted in
    let le : length c.self.inside.table.levels + unsigned_abs c.args.count ≤ most_levels + 1 = omega (arith, d, c.depth-room.ensures, c.in-Some.ensures.some.1, c.self.invariant.stack.some, c.self.invariant.stack.few, size) in
    rw (c.push-2.ensures, c.in_ok-push.ensures.ok, size) (record {
      stack = push_keeps c.args.count c.self.inside.table c.self.inside.terms c.self.inside.asserted c.self.invariant.stack le;
      facts = facts_pushed c.self.inside.table (unsigned_abs c.args.count) c.self.inside.terms.trees (length c.self.inside.terms.trees) c.self.inside.facts.sorts.items c.self.invariant.facts;
      levels = levels_pushed c.self.inside.table (unsigned_abs c.args.count) c.self.inside.terms.trees (length c.self.inside.terms.trees) c.self.inside.facts.levels.items c.self.invariant.levels;
    })

pub returns : goal.returns
returns c =
    let size : c.in-Some.levels ≡ unsigned_abs c.args.count = rw (to_z-of_z w128 c.args.count c.ranges.count) at c.in-Some.ensures.some.0 in
    let d : depth c.args.self.now.frames ≡ length c.self.inside.table.levels - 1 = ap (λ s. depth s.frames) (sym c.self.view_is) ∙ depth-stack c.self.inside.table c.self.inside.terms.trees c.self.inside.asserted in
    let le : length c.self.inside.table.levels + unsigned_abs c.args.count ≤ most_levels + 1 = omega (arith, d, c.depth-room.ensures, c.in-Some.ensures.some.1, c.self.invariant.stack.some, c.self.invariant.stack.few, size) in
    rw (c.push-2.ensures, c.in_ok-push.ensures.ok, size, ← c.self.view_is) (push_is c.args.count c.self.inside.table c.self.inside.terms c.self.inside.asserted c.self.invariant.stack le)
