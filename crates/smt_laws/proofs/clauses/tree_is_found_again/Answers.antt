use Rattle.smt_laws.proofs.SameTree.{found_again}
use Rattle.smt_laws.proofs.clauses.tree_is_found_again.Goals as goal

pub returns : goal.returns
returns c = found_again
