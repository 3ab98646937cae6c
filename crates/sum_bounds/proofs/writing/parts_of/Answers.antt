use Rattle.std.proofs.Common.{pos}
use Rattle.fraction128.specs.declared.Summand.{Summand}
use Rattle.sum_bounds.proofs.writing.parts_of.Goals as goal

pub part_of-requires-clause-leaf : goal.part_of-requires-clause-leaf
part_of-requires-clause-leaf c =
    let d : Summand = record { coefficient = pos 0; term = 0 } in
    (c.requires.sum c.loop-summand.summand-index d c.loop-summand-test.true).leaf
