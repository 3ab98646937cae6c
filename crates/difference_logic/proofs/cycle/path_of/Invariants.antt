use Rattle.difference_logic.specs.Differences.{Follows}
use Rattle.difference_logic.proofs.cycle.path_of.Given as goal

abbrev pub invariant-loop-k : goal.invariant-loop-k
invariant-loop-k l = Follows l.fn.atoms.atoms l.fn.literals l.path
