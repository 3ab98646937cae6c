use Rattle.smt_laws.proofs.MoreTrees.{with_trees}
use Rattle.smt_laws.proofs.clauses.still_follows_with_trees.Goals as goal

pub returns : goal.returns
returns c = with_trees
