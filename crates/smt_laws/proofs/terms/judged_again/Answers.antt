use Rattle.smt_laws.proofs.JudgedAgain.{judged_again}
use Rattle.smt_laws.proofs.terms.judged_again.Goals as goal

pub returns : goal.returns
returns c = judged_again
