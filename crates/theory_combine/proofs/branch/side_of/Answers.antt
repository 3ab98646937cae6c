use Rattle.std.proofs.Common.{rules, sym, subst}
use Rattle.std.proofs.lemmas.Int.{to_z-of_z}
use mir.Syntax.{w128}
use mir.Val.{SFits}
use Rattle.fraction128.specs.Whole.{InRange}
use Rattle.theory_combine.proofs.Reaching.{floor_in_range}
use Rattle.theory_combine.proofs.branch.side_of.Goals as goal

pub returns-clause-in_range : goal.returns-clause-in_range
returns-clause-in_range c =
    let leaf = c.args.leaf.now in
    let lowest = c.denominator-denominator.ensures.lowest in
    let fits : SFits w128 leaf.floor = search rules in
    subst InRange (sym (to_z-of_z w128 leaf.floor fits)) (floor_in_range leaf.floor leaf.value.numerator leaf.value.denominator lowest.positive c.requires.floor.0 c.requires.floor.1 lowest.numerator_in)
