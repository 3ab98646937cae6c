use Rattle.std.proofs.Common.{◌∙◌}
use Rattle.scope_stack.specs.Trials.{marks}
use Rattle.scope_stack.proofs.ThinLemmas.{kept-more}
use Rattle.scope_stack.proofs.asserted.copy_kept.Goals as goal

pub loop-place-preserved : goal.loop-place-preserved
loop-place-preserved c =
    c.in_ok-copy_if.ensures
    ∙ kept-more (marks c.args.kept.now) c.args.assertions.now c.loop-place.place c.index-assertions-place.result c.loop-place.copies.items c.loop-place-test.true c.index-assertions-place.is c.loop-place.invariant
