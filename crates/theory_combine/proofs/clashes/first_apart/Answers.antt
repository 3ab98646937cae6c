use Rattle.std.proofs.Common.{◌≤◌, length, arith}
use Rattle.closure_log.specs.Whole.{AreInOneClass}
use Rattle.theory_combine.proofs.Clashing.{zipped}
use Rattle.theory_combine.proofs.clashes.first_apart.Goals as goal

pub returns-clause-none : goal.returns-clause-none
returns-clause-none c =
    let past : length c.args.left.now ≤ c.loop-k.k = c.loop-k-test.false in
    zipped (AreInOneClass c.args.closure.now) c.args.left.now c.args.right.now c.requires.size (λ k less. c.loop-k.invariant k (omega (arith, less, past)))
