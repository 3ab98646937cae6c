use Rattle.std.proofs.Common.{◌≡◌, ◌++◌, ◌∷◌, [], map, take}
use Rattle.equality_clauses.specs.Ties.{literal, no}
use Rattle.equality_clauses.proofs.clauses.put_each.Given as goal

abbrev pub invariant-loop-other : goal.invariant-loop-other
invariant-loop-other l = l.clauses ≡ l.initial.clauses ++ map (λ n. no l.number ∷ literal l.sign n ∷ []) (take l.other-index l.numbers)
