use Rattle.smt_laws.proofs.Assumed.{assumptions_are_a_level}
use Rattle.smt_laws.proofs.language.assumptions_are_a_level.Goals as goal

pub returns : goal.returns
returns c = assumptions_are_a_level
