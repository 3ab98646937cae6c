use Rattle.std.proofs.Common.{◌∙◌, sym, inl, inr}
use Rattle.smt_reader.proofs.part.Part.ending.Goals as goal
use Rattle.smt_reader.proofs.PartSteps.{blank_end, comment_end, word_end_token, word_end_none, text_end, mark_end, quoted_end}

pub returns-in-Blank : goal.returns-in-Blank
returns-in-Blank c = elim c.in-Blank.is [ inl is ↦ rw is blank_end | inr is ↦ rw is comment_end ]

pub returns-then-is_token : goal.returns-then-is_token
returns-then-is_token c = rw c.in-Word.is (word_end_token _ (λ w. sym c.if-is_token.true ∙ c.is_token.ensures w))

pub returns-else-is_token : goal.returns-else-is_token
returns-else-is_token c = rw c.in-Word.is (word_end_none _ (λ w. sym c.if-is_token.false ∙ c.is_token.ensures w))

pub returns-in-Mark : goal.returns-in-Mark
returns-in-Mark c = rw c.in-Mark.is mark_end

pub returns-in-Text : goal.returns-in-Text
returns-in-Text c = elim c.in-Text.is [ inl is ↦ rw is text_end | inr is ↦ rw is quoted_end ]
