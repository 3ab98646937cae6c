use Rattle.std.proofs.Common.{◌≡◌, length, arith, subst}
use Rattle.model_build.specs.Keys.{AreFirst}
use Rattle.model_build.proofs.Kept.{no_clash}
use Rattle.model_build.proofs.firsts.collect.Goals as goal

pub returns-clause-no_clash : goal.returns-clause-no_clash
returns-clause-no_clash c =
    let e : c.loop-place.place ≡ length c.args.store.now.trees = omega arith in
    no_clash c.args.store.now.trees c.args.given.now c.loop-place.firsts.places.items
    (subst (λ n. AreFirst c.args.store.now.trees c.args.given.now n c.loop-place.firsts.places.items) e c.loop-place.invariant.first)
