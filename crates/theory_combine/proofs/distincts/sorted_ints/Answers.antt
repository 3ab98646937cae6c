use Rattle.std.proofs.Common.{rules, ◌≤◌, length}
use Rattle.theory_combine.proofs.ByValue.{none_yet, fewer, moved}
use Rattle.theory_combine.proofs.distincts.sorted_ints.Goals as goal

pub loop-number-init : goal.loop-number-init
loop-number-init c = search (rules, none_yet)

pub returns-clause-ints : goal.returns-clause-ints
returns-clause-ints c =
    let all : length c.args.arguments.now ≤ c.loop-number.number = c.loop-number-test.false in
    moved c.args.parts.now c.args.given.now c.args.arguments.now (length c.args.arguments.now) c.loop-number.ints.items c.sort.new.ints.items c.sort.ensures.permutation
    (fewer c.args.parts.now c.args.given.now c.args.arguments.now (length c.args.arguments.now) c.loop-number.number c.loop-number.ints.items all c.loop-number.invariant)
