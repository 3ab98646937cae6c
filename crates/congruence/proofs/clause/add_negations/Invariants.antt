use Rattle.std.proofs.Common.{◌≡◌, ◌++◌, map, take}
use Rattle.literals.specs.Signed.{opposite}
use Rattle.congruence.proofs.clause.add_negations.Given as goal

abbrev pub invariant-loop-reason : goal.invariant-loop-reason
invariant-loop-reason l = l.clause.items ≡ l.initial.clause.items ++ map opposite (take l.reason-index l.reasons)
