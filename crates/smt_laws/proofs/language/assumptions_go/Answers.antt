use Rattle.smt_laws.proofs.Assumed.{assumptions_go}
use Rattle.smt_laws.proofs.language.assumptions_go.Goals as goal

pub returns : goal.returns
returns c = assumptions_go
