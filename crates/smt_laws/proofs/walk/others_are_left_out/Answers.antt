use Rattle.smt_laws.proofs.UseLemmas.{leaves_out}
use Rattle.smt_laws.proofs.walk.others_are_left_out.Goals as goal

pub returns : goal.returns
returns c = leaves_out
