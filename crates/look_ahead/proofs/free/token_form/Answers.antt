use Rattle.look_ahead.proofs.FreeLemmas.{no_form}
use Rattle.look_ahead.proofs.free.token_form.Goals as goal

pub returns-in_default : goal.returns-in_default
returns-in_default c = no_form c.args.token c.in_default.not-Reserved
