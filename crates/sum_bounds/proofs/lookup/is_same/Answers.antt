use Rattle.std.proofs.Common.{arith, refl}
use Rattle.sum_bounds.proofs.Sums.{same_lists}
use Rattle.sum_bounds.proofs.lookup.is_same.Goals as goal

pub returns : goal.returns
returns c =
    (λ t. same_lists c.args.left.now c.args.right.now (let e = c.if-left-right.false in omega (arith, e)) (λ k d lt. c.loop-place.invariant k d (let e = c.loop-place-test.false in omega (arith, lt, e))), λ e. refl)
