use Rattle.check_atoms.proofs.TruthSorts.{truths_of_bools}
use Rattle.check_atoms.proofs.laws.truths_are_of_bools.Goals as goal

pub returns : goal.returns
returns c = truths_of_bools
