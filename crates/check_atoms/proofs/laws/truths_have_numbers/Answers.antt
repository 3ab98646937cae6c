use Rattle.check_atoms.proofs.PartNumbers.{truths_numbered}
use Rattle.check_atoms.proofs.laws.truths_have_numbers.Goals as goal

pub returns : goal.returns
returns c = truths_numbered
