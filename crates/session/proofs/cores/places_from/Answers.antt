use Rattle.std.specs.List.{range_with_len}
use Rattle.std.proofs.Common.{◌+◌}
use Rattle.session.proofs.Listing.{range_more}
use Rattle.session.proofs.cores.places_from.Goals as goal

pub loop-place-preserved : goal.loop-place-preserved
loop-place-preserved c =
    range_more c.loop-place.place (c.args.first + c.args.count) c.loop-place.places.items c.push.new.self.items (range_with_len c.args.first c.args.count) c.loop-place-test.true c.in_ok-push.ensures.items
    c.loop-place.invariant
