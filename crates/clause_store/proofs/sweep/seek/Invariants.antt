use Rattle.clause_store.specs.Visits.{NoneBetween}
use Rattle.clause_store.proofs.sweep.seek.Given as goal

abbrev pub invariant-loop-k : goal.invariant-loop-k
invariant-loop-k l = NoneBetween l.trail.steps l.literals l.other l.start l.k
