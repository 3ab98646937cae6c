use Rattle.std.proofs.Common.{All}
use Rattle.point_closure.specs.Sound.{KeepsPending}
use Rattle.point_closure.specs.Rest.{Begins, AreFiled, FiledGrows, TakesPart}
use Rattle.point_closure.proofs.file.refile.Given as goal

abbrev pub invariant-loop-owner : goal.invariant-loop-owner
invariant-loop-owner l = record {
  waits : AreFiled l.graph l.classes.unions l.table l.pending.items l.owners l.owner-index;
  filed : All (TakesPart l.graph) l.table.points;
  sound : KeepsPending l.graph l.classes.unions l.fn.pending.items l.pending.items;
  begins : Begins l.fn.pending.items l.pending.items;
  grows : FiledGrows l.fn.table l.table;
}
