use Rattle.proof_meaning.proofs.Running.{named_refuted}
use Rattle.proof_meaning.proofs.laws.named_assertions_have_no_model.Goals as goal

pub returns : goal.returns
returns c = named_refuted c.proof_clauses_are_true.ensures
