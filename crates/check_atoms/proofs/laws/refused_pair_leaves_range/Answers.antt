use Rattle.check_atoms.proofs.RefusedPair.{refused_pair}
use Rattle.check_atoms.proofs.laws.refused_pair_leaves_range.Goals as goal

pub returns : goal.returns
returns c = refused_pair
