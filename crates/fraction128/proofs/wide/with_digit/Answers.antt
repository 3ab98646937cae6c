use Rattle.fraction128.proofs.Places.{held, place_is, digit_is}
use Rattle.fraction128.proofs.wide.with_digit.Goals as goal

pub returns-clause-value : goal.returns-clause-value
returns-clause-value c =
    digit_is c.args.places c.args.x c.args.digit (held c.with_times.result) (held c.with_times-2.result) (held c.with_times-3.result) (held c.with_times-4.result)
    (place_is c.with_times.result c.args.places.d0 c.args.x.d0 c.args.digit c.requires.near.first c.requires.small.first c.requires.digit c.with_times.ensures.value c.with_times.ensures.bound)
    (place_is c.with_times-2.result c.args.places.d1 c.args.x.d1 c.args.digit c.requires.near.second c.requires.small.second c.requires.digit c.with_times-2.ensures.value c.with_times-2.ensures.bound)
    (place_is c.with_times-3.result c.args.places.d2 c.args.x.d2 c.args.digit c.requires.near.third c.requires.small.third c.requires.digit c.with_times-3.ensures.value c.with_times-3.ensures.bound)
    (place_is c.with_times-4.result c.args.places.d3 c.args.x.d3 c.args.digit c.requires.near.fourth c.requires.small.fourth c.requires.digit c.with_times-4.ensures.value c.with_times-4.ensures.bound)
