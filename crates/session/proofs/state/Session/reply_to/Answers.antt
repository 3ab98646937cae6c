use Rattle.std.proofs.Common.{sym, ◌∙◌}
use Rattle.session.proofs.Answering.{replied, refused}
use Rattle.session.proofs.state.Session.reply_to.Goals as goal

pub returns-in-Ok-clause-reply : goal.returns-in-Ok-clause-reply
returns-in-Ok-clause-reply g c = replied _ _ _ _ _ (sym c.in-Ok.is ∙ c.in_ok-command.ensures) c.step.ensures.reply

pub returns-in-Err-clause-reply : goal.returns-in-Err-clause-reply
returns-in-Err-clause-reply g c = refused _ _ _ (sym c.in-Err.is ∙ c.in_ok-command.ensures)
