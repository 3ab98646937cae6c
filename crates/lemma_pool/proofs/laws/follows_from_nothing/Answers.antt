use Rattle.lemma_pool.proofs.Levels.{grows_from_nothing}
use Rattle.lemma_pool.proofs.laws.follows_from_nothing.Goals as goal

pub returns : goal.returns
returns c = grows_from_nothing
