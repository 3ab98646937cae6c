use Rattle.smt_laws.proofs.Run.{walk_is_judge}
use Rattle.smt_laws.proofs.walk.walk_gives_the_judgement.Goals as goal

pub returns : goal.returns
returns c = walk_is_judge
