use Rattle.race_model.proofs.Sound.{run_keeps}
use Rattle.race_model.proofs.laws.every_run_is_sound.Goals as goal

pub returns : goal.returns
returns c = λ s t races start run. run_keeps c.race_keeps_sound.ensures c.next_race_begins_sound.ensures races s t run (c.first_state_is_sound.ensures s start)
