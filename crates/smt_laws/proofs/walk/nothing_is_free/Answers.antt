use Rattle.smt_laws.proofs.UseLemmas.{nothing_free}
use Rattle.smt_laws.proofs.walk.nothing_is_free.Goals as goal

pub returns : goal.returns
returns c = nothing_free
