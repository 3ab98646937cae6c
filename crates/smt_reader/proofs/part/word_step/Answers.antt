use Rattle.std.proofs.Common.{◌∙◌, sym}
use Rattle.smt_reader.proofs.part.word_step.Goals as goal
use Rattle.smt_reader.proofs.PartSteps.{word_on, word_breaks, word_ends, word_is_none}

pub returns-in-Some : goal.returns-in-Some
returns-in-Some c = word_on c.args.form c.args.byte _ c.in-Some.ensures

pub returns-then-is_word_byte : goal.returns-then-is_word_byte
returns-then-is_word_byte c = word_breaks c.args.form c.args.byte (sym c.is_word_byte.ensures ∙ c.if-is_word_byte.true) c.in_default.ensures

pub returns-then-is_token : goal.returns-then-is_token
returns-then-is_token c =
    word_ends c.args.form c.args.byte (sym c.is_word_byte.ensures ∙ c.if-is_word_byte.false) (λ w. sym c.if-is_token.true ∙ c.is_token.ensures w)

pub returns-else-is_token : goal.returns-else-is_token
returns-else-is_token c =
    word_is_none c.args.form c.args.byte (sym c.is_word_byte.ensures ∙ c.if-is_word_byte.false) (λ w. sym c.if-is_token.false ∙ c.is_token.ensures w)
