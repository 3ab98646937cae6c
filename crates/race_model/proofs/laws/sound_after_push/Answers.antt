use Rattle.race_model.proofs.Sound.{sound_after_push}
use Rattle.race_model.proofs.laws.sound_after_push.Goals as goal

pub returns : goal.returns
returns c = sound_after_push c.still_follows_after_push.ensures
