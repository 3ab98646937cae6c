use Rattle.std.proofs.Common.{ℕ, ◌<◌, get_or}
use Rattle.std.specs.Prelude.{Contains}
use Rattle.point_closure.specs.Rest.{Begins, Meets, IsAcross, watch_at}
use Rattle.point_closure.proofs.meet.meet_pairs.Given as goal

abbrev pub invariant-loop-slot : goal.invariant-loop-slot
invariant-loop-slot l = record {
  begins : Begins l.fn.met.items l.met.items;
  meets : Meets l.pairs l.classes.unions l.kept l.gone l.fn.met.items l.met.items;
  all : (j : ℕ) → j < l.slot-index → IsAcross l.classes.unions l.kept l.gone (watch_at l.pairs (get_or l.slots j 0)) → Contains l.met.items (get_or l.slots j 0);
}
