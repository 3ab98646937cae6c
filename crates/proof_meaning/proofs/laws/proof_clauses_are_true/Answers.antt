use Rattle.proof_meaning.proofs.Running.{clauses_true}
use Rattle.proof_meaning.proofs.laws.proof_clauses_are_true.Goals as goal

pub returns : goal.returns
returns c = clauses_true
