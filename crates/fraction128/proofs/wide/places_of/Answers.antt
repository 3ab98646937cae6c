use Rattle.std.proofs.Common.{◌∙◌}
use Rattle.std.specs.Int.{w128}
use Rattle.std.proofs.lemmas.Int.{to_z-of_z}
use Rattle.fraction128.proofs.Places.{places_value}
use Rattle.fraction128.proofs.wide.places_of.Goals as goal

pub returns-clause-value : goal.returns-clause-value
returns-clause-value c =
    places_value c.digits_of-parts.result c.digits_of-parts.ensures.small ∙ c.digits_of-parts.ensures.value ∙ to_z-of_z w128 c.args.n c.ranges.n
