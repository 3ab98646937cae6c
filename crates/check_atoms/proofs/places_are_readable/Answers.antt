use Rattle.check_atoms.proofs.ReadablePartsPlaces.{places_readable}
use Rattle.check_atoms.proofs.places_are_readable.Goals as goal

pub returns : goal.returns
returns c = places_readable c.leaves_are_parts.ensures c.trees_are_in_order.ensures c.trees_are_linear.ensures
