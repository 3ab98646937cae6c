use Rattle.std.proofs.Common.{◌≡◌, ◌⊎◌, All, Contains, take}
use Rattle.literals.specs.Signed.{Signed}
use Rattle.clause_store.specs.Choosing.{Outlasts}
use Rattle.clause_store.proofs.choose.another.Given as goal

abbrev pub invariant-loop-literal : goal.invariant-loop-literal
invariant-loop-literal l = record {
  contained : Contains l.literals l.best;
  single : l.first ≡ l.best → All (λ (m : Signed). m ≡ l.first) (take l.literal-index l.literals);
  last : All (λ (m : Signed). (m ≡ l.first) ⊎ Outlasts l.trail.steps l.best m) (take l.literal-index l.literals);
}
