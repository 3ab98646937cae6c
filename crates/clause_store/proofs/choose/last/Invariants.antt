use Rattle.std.proofs.Common.{All, Contains, take}
use Rattle.clause_store.specs.Choosing.{Outlasts}
use Rattle.clause_store.proofs.choose.last.Given as goal

abbrev pub invariant-loop-literal : goal.invariant-loop-literal
invariant-loop-literal l = record {
  contained : Contains l.literals l.best;
  last : All (Outlasts l.trail.steps l.best) (take l.literal-index l.literals);
}
