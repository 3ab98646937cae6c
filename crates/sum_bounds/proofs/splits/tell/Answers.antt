use Rattle.std.proofs.Common.{refl, to_z, of_z}
use Rattle.std.specs.Int.{w128}
use Rattle.fraction128.proofs.Integers.{same_bits}
use Rattle.sum_bounds.proofs.SplitLaws.{copy_more, stands_in_range}
use Rattle.sum_bounds.proofs.splits.tell.Goals as goal

pub returns-in-Ok : goal.returns-in-Ok
returns-in-Ok c =
    let b = c.args.bound in
    copy_more c.args.simplex.now c.args.copy.now c.set_bound.new.self b (record { variable = b.variable; side = b.side; number = to_z w128 (of_z w128 b.number); tag = c.in_ok-tag.tag }) c.facts.ensures c.requires.stands
    c.in_ok-tag.ensures c.if-tag-eq-SPARE.false refl refl (same_bits b.number (stands_in_range c.args.simplex.now b c.facts.ensures c.requires.stands)) c.set_bound.ensures.values c.in-Ok.ensures.told c.requires.copy
