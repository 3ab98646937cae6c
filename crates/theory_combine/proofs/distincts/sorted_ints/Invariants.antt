use Rattle.theory_combine.specs.ByValue.{AreIntsAmong}
use Rattle.theory_combine.proofs.distincts.sorted_ints.Given as goal

abbrev pub invariant-loop-number : goal.invariant-loop-number
invariant-loop-number l = AreIntsAmong l.parts l.given l.arguments l.number l.ints.items
