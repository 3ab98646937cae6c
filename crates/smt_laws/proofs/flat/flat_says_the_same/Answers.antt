use Rattle.smt_laws.proofs.FlatLaw.{says_the_same}
use Rattle.smt_laws.proofs.flat.flat_says_the_same.Goals as goal

pub returns : goal.returns
returns c = says_the_same
