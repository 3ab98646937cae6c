use Rattle.reply_print.proofs.Appends.{appended}
use Rattle.reply_print.proofs.error.message.Goals as goal

pub returns-in_ok-append-in-OptionTooLate : goal.returns-in_ok-append-in-OptionTooLate
returns-in_ok-append-in-OptionTooLate c =
    rw (c.in-OptionTooLate.is, ← c.option_word.ensures) (appended _ _ _ _ _ _ c.in_ok-append-in-OptionTooLate.ensures.ok c.keyword.ensures)

pub returns-in-NoModel : goal.returns-in-NoModel
returns-in-NoModel c = rw c.in-NoModel.is c.append-in-NoModel.ensures.ok

pub returns-in-ValueTooLarge : goal.returns-in-ValueTooLarge
returns-in-ValueTooLarge c = rw c.in-ValueTooLarge.is c.append-in-ValueTooLarge.ensures.ok
