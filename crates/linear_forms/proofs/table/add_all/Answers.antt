use Rattle.std.proofs.Common.{ap, length, arith}
use Rattle.linear_forms.proofs.TableLemmas.{length-knowns}
use Rattle.linear_forms.proofs.table.add_all.Goals as goal

pub returns-in_err-add_place-clause-each : goal.returns-in_err-add_place-clause-each
returns-in_err-add_place-clause-each g c =
    let same = ap length c.in_err-add_place.ensures.err in
    let before = length-knowns c.loop-place.all.items c.loop-place.entries.items in
    let now = length-knowns c.add_place.new.all.items c.add_place.new.entries.items in
    let size = c.loop-place.invariant.covering.size in
    let steps = c.loop-place.invariant.steps in
    let step = c.tick.ensures in
    omega arith
