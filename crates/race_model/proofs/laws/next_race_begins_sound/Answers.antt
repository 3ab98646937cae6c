use Rattle.race_model.proofs.Sound.{begin_keeps}
use Rattle.race_model.proofs.laws.next_race_begins_sound.Goals as goal

pub returns : goal.returns
returns c = begin_keeps c.still_follows_with_trees.ensures
