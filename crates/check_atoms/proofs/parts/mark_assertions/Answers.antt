use Rattle.check_atoms.proofs.Marking.{assertion_also}
use Rattle.check_atoms.proofs.parts.mark_assertions.Goals as goal

pub loop-assertion-preserved : goal.loop-assertion-preserved
loop-assertion-preserved c =
    assertion_also c.args.assertions.now c.loop-assertion.assertion-index c.assertion-item.result c.args.marks.now.items c.loop-assertion.marks.items c.loop-assertion-test.true c.assertion-item.is c.requires
    c.loop-assertion.invariant
