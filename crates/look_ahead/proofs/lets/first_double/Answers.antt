use Rattle.std.proofs.Common.{◌∙◌, take}
use Rattle.look_ahead.proofs.LetLemmas.{double_found, double_next, one_found, none_found, hashes_more}
use Rattle.look_ahead.proofs.lets.first_double.Goals as goal

pub returns-in-Some : goal.returns-in-Some
returns-in-Some c =
    double_found c.args.names.now c.loop-place.place _ c.loop-place-test.true c.loop-place.invariant.before (one_found _ (take c.loop-place.place c.args.names.now) c.in-Some.field-0 c.in-Some.ensures.some)

pub loop-place-preserved : goal.loop-place-preserved
loop-place-preserved c = record {
  before = double_next c.args.names.now c.loop-place.place _ c.loop-place-test.true c.loop-place.invariant.before (none_found _ (take c.loop-place.place c.args.names.now) c.in-None.ensures.none);
  filed = c.in_ok-push-in-None.ensures.ok ∙ hashes_more c.args.names.now c.loop-place.place _ _ _ c.loop-place-test.true c.loop-place.invariant.filed c.hash.ensures;
}
