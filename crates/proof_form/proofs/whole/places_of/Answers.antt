use Rattle.std.proofs.Common.{length, arith}
use Rattle.proof_form.proofs.Placing.{one_more, all_placed, all_within}
use Rattle.proof_form.proofs.whole.places_of.Goals as goal

pub loop-assertion-init : goal.loop-assertion-init
loop-assertion-init c = c.in_ok-places.ensures.items

pub loop-assertion-preserved : goal.loop-assertion-preserved
loop-assertion-preserved c =
    one_more c.assertions-assertions.result.now c.loop-assertion.assertion-index c.assertion-item.result c.loop-assertion.places.items c.push.new.self.items
    c.loop-assertion-test.true c.assertion-item.is c.loop-assertion.invariant c.in_ok-push.ensures.items

pub returns-clause-places : goal.returns-clause-places
returns-clause-places c =
    all_placed c.args.stack.now.trees c.assertions-assertions.result.now c.loop-assertion.assertion-index c.loop-assertion.places.items c.extend_from_slice.new.self.items c.args.above.now _
    (omega (arith, c.loop-assertion-test.false)) c.loop-assertion.invariant c.in_ok-extend_from_slice.ensures.items c.assertions-assertions.ensures.terms

pub returns-clause-within : goal.returns-clause-within
returns-clause-within c =
    all_within (length c.args.stack.now.trees) c.assertions-assertions.result.now c.loop-assertion.assertion-index c.loop-assertion.places.items c.extend_from_slice.new.self.items c.args.above.now
    (omega (arith, c.loop-assertion-test.false)) c.loop-assertion.invariant c.in_ok-extend_from_slice.ensures.items c.assertions-assertions.ensures.within c.requires
