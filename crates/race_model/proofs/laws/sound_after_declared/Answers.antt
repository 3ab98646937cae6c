use Rattle.race_model.proofs.Sound.{sound_after_declared}
use Rattle.race_model.proofs.laws.sound_after_declared.Goals as goal

pub returns : goal.returns
returns c = sound_after_declared c.still_follows_after_declared.ensures
