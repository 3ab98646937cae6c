use Rattle.race_model.proofs.Sound.{sound_after_cut}
use Rattle.race_model.proofs.laws.sound_after_cut.Goals as goal

pub returns : goal.returns
returns c = sound_after_cut c.still_follows_after_pop.ensures
