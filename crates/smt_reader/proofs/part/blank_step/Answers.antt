use Rattle.std.proofs.Common.{◌∙◌, sym}
use Rattle.smt_reader.proofs.part.blank_step.Goals as goal
use Rattle.smt_reader.proofs.PartSteps.{blank_on, comment_begins, enters, leaves, text_begins, quoted_begins, word_begins, blank_wrong}

pub returns-then-is_blank : goal.returns-then-is_blank
returns-then-is_blank c = blank_on c.args.byte (sym c.is_blank.ensures ∙ c.if-is_blank.true)

pub returns-then-byte-eq59 : goal.returns-then-byte-eq59
returns-then-byte-eq59 c = comment_begins c.args.byte c.if-byte-eq59.true

pub returns-then-byte-eq40 : goal.returns-then-byte-eq40
returns-then-byte-eq40 c = enters c.args.byte c.if-byte-eq40.true

pub returns-then-byte-eq41 : goal.returns-then-byte-eq41
returns-then-byte-eq41 c = leaves c.args.byte c.if-byte-eq41.true

pub returns-then-byte-eq34 : goal.returns-then-byte-eq34
returns-then-byte-eq34 c = text_begins c.args.byte c.if-byte-eq34.true

pub returns-then-byte-eq124 : goal.returns-then-byte-eq124
returns-then-byte-eq124 c = quoted_begins c.args.byte c.if-byte-eq124.true

pub returns-in-Some : goal.returns-in-Some
returns-in-Some c = word_begins c.args.byte _ c.in-Some.ensures

pub returns-in_default : goal.returns-in_default
returns-in_default c =
    blank_wrong c.args.byte (sym c.is_blank.ensures ∙ c.if-is_blank.false)
    c.if-byte-eq59.false c.if-byte-eq40.false c.if-byte-eq41.false c.if-byte-eq34.false c.if-byte-eq124.false c.in_default.ensures
