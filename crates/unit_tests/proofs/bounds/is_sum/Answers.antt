use Rattle.std.proofs.Common.{◌≤◌, All, pos, length, rules, subst}
use Rattle.std.proofs.lemmas.List.{take_all}
use Rattle.std.proofs.lemmas.List.Elements.{All-more}
use Rattle.fraction128.specs.declared.Summand.{Summand}
use Rattle.sum_bounds.specs.Written.{IsKnown}
use Rattle.unit_tests.proofs.bounds.is_sum.Goals as goal

pub returns : goal.returns
returns c = λ e.
    let past : length c.args.sum.now ≤ c.loop-i.i = search rules in
    subst (All (IsKnown c.args.bounds.now.columns)) (take_all c.loop-i.i c.args.sum.now past) c.loop-i.invariant

abbrev zero : Summand
zero = record { coefficient = pos 0; term = 0 }

pub loop-i-preserved : goal.loop-i-preserved
loop-i-preserved c =
    All-more (IsKnown c.args.bounds.now.columns) c.args.sum.now c.loop-i.i zero c.loop-i-test.true c.loop-i.invariant (c.is_known.ensures c.if-not-is_known.false)
