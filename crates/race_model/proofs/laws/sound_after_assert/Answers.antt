use Rattle.race_model.proofs.Sound.{sound_after_more}
use Rattle.race_model.proofs.laws.sound_after_assert.Goals as goal

pub returns : goal.returns
returns c = sound_after_more c.still_follows_after_more.ensures
