use Rattle.std.proofs.Common.{take, All, Contains}
use Rattle.literals.specs.Signed.{Signed, opposite}
use Rattle.worker.proofs.import.has_pair.Given as goal

abbrev pub invariant-loop-literal : goal.invariant-loop-literal
invariant-loop-literal l = All (λ (x : Signed). Contains l.literals (opposite x) → ⊥) (take l.literal-index l.literals)
