use Rattle.std.proofs.Common.{ℕ, ◌<◌}
use Rattle.theory_combine.specs.ByValue.{AreTellableBefore}
use Rattle.theory_combine.proofs.distincts.unnumbered_in.Given as goal

abbrev pub invariant-loop-later : goal.invariant-loop-later
invariant-loop-later l = (b : ℕ) → b < l.later → AreTellableBefore l.parts l.progress l.given l.arguments l.ints b
