use Rattle.proof_form.proofs.FarkasKeeping.{keeping_step}
use Rattle.proof_form.proofs.farkas.keep_literals.Goals as goal

pub loop-part-preserved : goal.loop-part-preserved
loop-part-preserved c =
    keeping_step c.args.clauses.now c.loop-part.clauses c.literal.new.self c.args.weighted.now c.loop-part.part-index c.loop-part.codes.items c.push.new.self.items c.part-item.result c.in_ok-code.code c.loop-part.invariant c.loop-part-test.true c.part-item.is
    c.literal.ensures.codes c.in_ok-code.ensures.code c.in_ok-push.ensures.items c.literal.ensures.kept
