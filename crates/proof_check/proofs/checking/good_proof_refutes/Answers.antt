use Rattle.proof_check.proofs.Refuting.{refutes}
use Rattle.proof_check.proofs.checking.good_proof_refutes.Goals as goal

pub returns : goal.returns
returns c = refutes c.named_assertions_have_no_model.ensures c.good_proof_leaves_no_model.ensures
