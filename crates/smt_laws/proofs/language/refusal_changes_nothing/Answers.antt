use Rattle.smt_laws.proofs.Told.{unchanged}
use Rattle.smt_laws.proofs.language.refusal_changes_nothing.Goals as goal

pub returns : goal.returns
returns c = unchanged
