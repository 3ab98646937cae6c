use Rattle.std.proofs.Common.{refl}
use Rattle.smt_sorts.specs.Leveled.{levels_of}
use Rattle.smt_sorts.proofs.table.Table.new.Goals as goal

pub returns : goal.returns
unfolding levels_of
returns c = rw c.new.ensures refl
