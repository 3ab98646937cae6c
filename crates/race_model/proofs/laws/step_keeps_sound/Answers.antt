use Rattle.race_model.proofs.Sound.{step_keeps}
use Rattle.race_model.proofs.laws.step_keeps_sound.Goals as goal

pub returns : goal.returns
returns c = step_keeps c.still_follows_after_push.ensures c.still_follows_after_declared.ensures c.still_follows_after_more.ensures c.still_follows_after_pop.ensures c.still_follows_above.ensures
