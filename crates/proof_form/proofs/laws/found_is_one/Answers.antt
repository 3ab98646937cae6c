use Rattle.proof_form.proofs.Alone.{found_alone}
use Rattle.proof_form.proofs.laws.found_is_one.Goals as goal

pub returns : goal.returns
returns c = found_alone
