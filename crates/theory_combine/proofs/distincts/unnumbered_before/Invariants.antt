use Rattle.std.proofs.Common.{ℕ, ◌-◌, ◌<◌, ◌≤◌}
use Rattle.theory_combine.specs.ByValue.{argument_at, AreTellableAt}
use Rattle.theory_combine.proofs.distincts.unnumbered_before.Given as goal

abbrev pub invariant-loop-back : goal.invariant-loop-back
invariant-loop-back l = (a : ℕ) → l.later - l.back ≤ a → a < l.later → AreTellableAt l.parts l.progress l.given l.arguments (argument_at l.ints a) (argument_at l.ints l.later)
