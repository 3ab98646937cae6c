use Rattle.check_atoms.proofs.PartNumbers.{parts_numbered}
use Rattle.check_atoms.proofs.laws.parts_have_numbers.Goals as goal

pub returns : goal.returns
returns c = parts_numbered
