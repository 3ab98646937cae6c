use Rattle.std.proofs.Common.{◌≡◌, ◌++◌, map, take}
use Rattle.equality_clauses.specs.Ties.{literal}
use Rattle.equality_clauses.proofs.clauses.add_all.Given as goal

abbrev pub invariant-loop-number : goal.invariant-loop-number
invariant-loop-number l = l.literals.items ≡ l.initial.literals.items ++ map (literal l.positive) (take l.number-index l.numbers)
