use Rattle.smt_laws.proofs.Told.{one}
use Rattle.smt_laws.proofs.language.one_reply.Goals as goal

pub returns : goal.returns
returns c = one
