use Rattle.look_ahead.proofs.FreeLemmas.{word_has_form, end_has_form}
use Rattle.look_ahead.proofs.free.form_at.Goals as goal

pub returns-in-End : goal.returns-in-End
returns-in-End c = end_has_form c.args.term.now c.args.place c.in-End.ensures

pub returns-in-Word : goal.returns-in-Word
returns-in-Word c = word_has_form c.args.term.now c.args.place c.in-Word.token c.token_form.result c.in-Word.ensures c.token_form.ensures
