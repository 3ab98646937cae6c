use Rattle.std.proofs.Common.{nat_eq}
use Rattle.std.specs.HashMap.{get}
use Rattle.model_eval.specs.Tables.{AreIndexes}
use Rattle.model_eval.proofs.tables.indexes_of.Given as goal

abbrev pub invariant-loop-i : goal.invariant-loop-i
invariant-loop-i l = AreIndexes l.tables (get nat_eq l.indexes)
