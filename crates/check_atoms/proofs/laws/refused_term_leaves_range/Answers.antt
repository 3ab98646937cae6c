use Rattle.check_atoms.proofs.Refused.{refused_term}
use Rattle.check_atoms.proofs.laws.refused_term_leaves_range.Goals as goal

pub returns : goal.returns
returns c = refused_term
