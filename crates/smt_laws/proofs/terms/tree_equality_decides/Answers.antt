use Rattle.smt_laws.proofs.SameTree.{equality_decides}
use Rattle.smt_laws.proofs.terms.tree_equality_decides.Goals as goal

pub returns : goal.returns
returns c = equality_decides
