use Rattle.fraction128.proofs.DigitLemmas.{word_is}
use Rattle.fraction128.proofs.exact_sum.word.Goals as goal

pub returns : goal.returns
returns c =
    word_is c.args.w _ _ _ _ _ _ c.requires c.with_digit-fifth.ensures c.with_digit-fourth.ensures c.with_digit-third.ensures c.with_digit-second.ensures c.with_digit-first.ensures c.with_digit.ensures
