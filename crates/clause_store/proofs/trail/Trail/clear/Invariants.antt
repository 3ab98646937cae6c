use Rattle.std.proofs.Common.{◌≡◌, length}
use Rattle.clause_store.proofs.trail.Trail.clear.Given as goal

abbrev pub invariant-clear : goal.invariant-clear
invariant-clear l = l.self.atoms ≡ l.initial.self.atoms

abbrev pub decreases-clear : goal.decreases-clear
decreases-clear l = length l.self.steps
