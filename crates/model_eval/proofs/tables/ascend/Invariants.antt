use Rattle.std.proofs.Common.{◌<◌, take, All}
use Rattle.smt_meaning.specs.declared.values.Table.{Table}
use Rattle.model_eval.specs.Tables.{Ascend}
use Rattle.model_eval.proofs.tables.ascend.Given as goal

abbrev pub invariant-loop-i : goal.invariant-loop-i
invariant-loop-i l = record {
  under : All (λ (t : Table). t.symbol < l.next) (take l.i l.tables);
  rising : Ascend (take l.i l.tables);
}
