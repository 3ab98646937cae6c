use Rattle.std.proofs.Common.{◌≡◌, length, subst, arith}
use Rattle.elaborate.specs.Own.{AreAlike}
use Rattle.elaborate.proofs.Owned.{alike_begins}
use Rattle.elaborate.proofs.own.begins.Goals as goal

pub returns : goal.returns
returns c = λ test.
    let all : c.loop-id.id ≡ length c.args.short.now.trees = omega (arith, c.loop-id-test.false, c.len-id-end.ensures.value) in
    alike_begins c.args.short.now.trees c.args.long.now.trees c.loop-id.invariant.0 (subst (λ n. AreAlike n c.args.short.now.trees c.args.long.now.trees) all c.loop-id.invariant.1)
