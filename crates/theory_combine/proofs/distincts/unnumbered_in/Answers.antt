use Rattle.std.proofs.Common.{◌≤◌, length, below_more, arith}
use Rattle.theory_combine.specs.ByValue.{AreTellableBefore}
use Rattle.theory_combine.proofs.distincts.unnumbered_in.Goals as goal

pub loop-later-preserved : goal.loop-later-preserved
loop-later-preserved c =
    below_more (λ b. AreTellableBefore c.args.parts.now c.args.progress.now c.args.given.now c.args.arguments.now c.args.ints.now b) c.loop-later.later c.loop-later.invariant c.in-None.ensures.none

pub returns-clause-none : goal.returns-clause-none
returns-clause-none c = λ b less.
    let all : length c.args.ints.now ≤ c.loop-later.later = c.loop-later-test.false in
    c.loop-later.invariant b (omega (arith, all, less))
