use Rattle.std.proofs.Common.{◌≡◌, ◌-◌, [], length}
use Rattle.point_closure.specs.Closure.{AreRead}
use Rattle.congruence.specs.Reading.{AreSeen}
use Rattle.congruence.specs.Recorded.{IsRecorded}
use Rattle.congruence.proofs.congruence.Congruence.read.Given as goal

abbrev pub invariant-terms : goal.invariant-terms
invariant-terms l = record {
  recorded : IsRecorded l.self;
  first : l.self.closure.steps.items ≡ [];
  read : AreRead l.store.trees l.self.closure.graph;
  seen : AreSeen l.store.trees l.self.closure.graph;
}

abbrev pub decreases-terms : goal.decreases-terms
decreases-terms l = l.count - length l.self.closure.graph
