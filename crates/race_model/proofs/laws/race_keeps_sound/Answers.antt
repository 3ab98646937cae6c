use Rattle.race_model.proofs.Sound.{race_keeps}
use Rattle.race_model.proofs.laws.race_keeps_sound.Goals as goal

pub returns : goal.returns
returns c = λ s t es. race_keeps c.step_keeps_sound.ensures es s t
