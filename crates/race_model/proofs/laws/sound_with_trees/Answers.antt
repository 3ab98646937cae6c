use Rattle.race_model.proofs.Sound.{sound_with_trees}
use Rattle.race_model.proofs.laws.sound_with_trees.Goals as goal

pub returns : goal.returns
returns c = sound_with_trees c.still_follows_with_trees.ensures
