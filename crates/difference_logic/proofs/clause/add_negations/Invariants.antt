use Rattle.std.proofs.Common.{◌≡◌, ◌++◌, map, take}
use Rattle.literals.specs.Signed.{opposite}
use Rattle.difference_logic.proofs.clause.add_negations.Given as goal

abbrev pub invariant-loop-literal : goal.invariant-loop-literal
invariant-loop-literal l = l.clause.items ≡ l.initial.clause.items ++ map opposite (take l.literal-index l.literals)
