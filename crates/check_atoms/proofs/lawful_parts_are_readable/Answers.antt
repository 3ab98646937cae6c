use Rattle.check_atoms.proofs.Readable.{lawful_readable}
use Rattle.check_atoms.proofs.lawful_parts_are_readable.Goals as goal

pub returns : goal.returns
returns c = lawful_readable c.leaves_are_parts.ensures
