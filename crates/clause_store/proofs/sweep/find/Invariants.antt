use Rattle.std.proofs.Common.{◌≡◌, All, take, ◌⊎◌}
use Rattle.clause_store.specs.Stored.{IsFalseOn}
use Rattle.clause_store.proofs.sweep.find.Given as goal

abbrev pub invariant-loop-literal : goal.invariant-loop-literal
invariant-loop-literal l = All (λ m. (m ≡ l.other) ⊎ IsFalseOn l.trail.steps m) (take l.literal-index l.literals)
