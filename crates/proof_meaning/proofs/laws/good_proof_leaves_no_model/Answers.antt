use Rattle.proof_meaning.proofs.Running.{good_refutes}
use Rattle.proof_meaning.proofs.laws.good_proof_leaves_no_model.Goals as goal

pub returns : goal.returns
returns c = good_refutes c.named_assertions_have_no_model.ensures
