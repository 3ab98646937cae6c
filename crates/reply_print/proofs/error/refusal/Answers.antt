use Rattle.reply_print.proofs.Appends.{appended}
use Rattle.reply_print.proofs.error.refusal.Goals as goal

pub returns-in_ok-append-in-WrongArguments : goal.returns-in_ok-append-in-WrongArguments
returns-in_ok-append-in-WrongArguments c =
    rw c.in-WrongArguments.is (appended _ _ _ _ _ _ c.in_ok-append-in-WrongArguments.ensures.ok c.append-in-WrongArguments-2.ensures.ok)

pub returns-in-AlreadyDeclared : goal.returns-in-AlreadyDeclared
returns-in-AlreadyDeclared c = rw c.in-AlreadyDeclared.is c.with_name.ensures

pub returns-in-ArgumentCount : goal.returns-in-ArgumentCount
returns-in-ArgumentCount c = rw c.in-ArgumentCount.is c.with_name-in-ArgumentCount.ensures

pub returns-in-SortsDiffer : goal.returns-in-SortsDiffer
returns-in-SortsDiffer c = rw c.in-SortsDiffer.is c.with_name-in-SortsDiffer.ensures

pub returns-in-PopPastLevelZero : goal.returns-in-PopPastLevelZero
returns-in-PopPastLevelZero c = rw c.in-PopPastLevelZero.is c.append-in-PopPastLevelZero.ensures.ok

pub returns-in-TooManyLevels : goal.returns-in-TooManyLevels
returns-in-TooManyLevels c = rw c.in-TooManyLevels.is c.append-in-TooManyLevels.ensures.ok

pub returns-in-TooManyTerms : goal.returns-in-TooManyTerms
returns-in-TooManyTerms c = rw c.in-TooManyTerms.is c.append-in-TooManyTerms.ensures.ok

pub returns-in-TooManySymbols : goal.returns-in-TooManySymbols
returns-in-TooManySymbols c = rw c.in-TooManySymbols.is c.append-in-TooManySymbols.ensures.ok
