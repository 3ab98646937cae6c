use Rattle.point_closure.specs.Sound.{KeepsPending}
use Rattle.point_closure.specs.Rest.{Begins}
use Rattle.point_closure.proofs.SignatureLemmas.{Walks}
use Rattle.point_closure.proofs.file.pair_found.Given as goal

abbrev pub invariant-loop-link : goal.invariant-loop-link
invariant-loop-link l = record {
  walks : Walks l.graph l.classes.unions l.table l.pending.items l.hash l.point l.link l.found;
  sound : KeepsPending l.graph l.classes.unions l.fn.pending.items l.pending.items;
  begins : Begins l.fn.pending.items l.pending.items;
}

abbrev pub decreases-loop-link : goal.decreases-loop-link
decreases-loop-link l = l.link
