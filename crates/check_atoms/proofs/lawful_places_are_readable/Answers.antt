use Rattle.check_atoms.proofs.ReadablePartsPlaces.{lawful_places}
use Rattle.check_atoms.proofs.lawful_places_are_readable.Goals as goal

pub returns : goal.returns
returns c = lawful_places c.leaves_are_parts.ensures
