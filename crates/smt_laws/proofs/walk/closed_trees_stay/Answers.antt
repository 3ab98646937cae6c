use Rattle.smt_laws.proofs.AgainLemmas.{put_leaves}
use Rattle.smt_laws.proofs.walk.closed_trees_stay.Goals as goal

pub returns : goal.returns
returns c = put_leaves
