use Rattle.std.proofs.Common.{◌≡◌}
use Rattle.clause_store.specs.Cutting.{IsCut}
use Rattle.clause_store.proofs.cut.cut_rows.Given as goal

abbrev pub invariant-loop-i : goal.invariant-loop-i
invariant-loop-i l = record {
  cut : IsCut l.bound l.initial.rows.entries l.rows.entries l.i;
  looks : l.rows.looks ≡ l.initial.rows.looks;
}
