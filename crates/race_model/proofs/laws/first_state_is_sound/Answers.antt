use Rattle.race_model.proofs.Sound.{start_sound}
use Rattle.race_model.proofs.laws.first_state_is_sound.Goals as goal

pub returns : goal.returns
returns c = start_sound
