use Rattle.std.specs.Prelude.{All, Contains}
use Rattle.difference_logic.proofs.clause.told_literals.Given as goal

abbrev pub invariant-loop-code : goal.invariant-loop-code
invariant-loop-code l = All (Contains l.fn.log) l.literals.items
