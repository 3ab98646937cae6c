use Rattle.std.proofs.Common.{◌≤◌, ◌<◌, ◌≢◌, ℤ, pos, ◌+ℤ◌, sym, subst, arith}
use Rattle.fraction128.specs.Whole.{InRange}
use Rattle.fraction128.proofs.Integers.{same_bits}
use Rattle.int_branch.proofs.Branches.{next_in_range}
use Rattle.int_branch.proofs.sides.floor_of.Goals as goal

pub returns-clause-next_in_range : goal.returns-clause-next_in_range
returns-clause-next_in_range c =
    let lowest = c.denominator-denominator.ensures.lowest in
    let positive : 0 < c.args.value.denominator = lowest.positive in
    let other : c.args.value.denominator ≢ 1 = c.requires in
    let two : 2 ≤ c.args.value.denominator = omega arith in
    subst (λ (z : ℤ). InRange (z +ℤ pos 1)) (sym (same_bits c.floor.result c.floor.ensures.in_range))
    (next_in_range c.floor.result c.args.value.numerator c.args.value.denominator two c.floor.ensures.lower c.floor.ensures.in_range lowest.numerator_in)
