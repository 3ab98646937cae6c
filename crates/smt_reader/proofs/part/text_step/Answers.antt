use Rattle.std.proofs.Common.{◌∙◌, sym}
use Rattle.smt_reader.proofs.part.text_step.Goals as goal
use Rattle.smt_reader.proofs.PartSteps.{mark_begins, text_adds, text_wrong}

pub returns-then-byte-eq34 : goal.returns-then-byte-eq34
returns-then-byte-eq34 c = mark_begins c.args.byte c.if-byte-eq34.true

pub returns-then-is_printable : goal.returns-then-is_printable
returns-then-is_printable c = text_adds c.args.byte c.if-byte-eq34.false (sym c.is_printable.ensures ∙ c.if-is_printable.true)

pub returns-else-is_printable : goal.returns-else-is_printable
returns-else-is_printable c = text_wrong c.args.byte c.if-byte-eq34.false (sym c.is_printable.ensures ∙ c.if-is_printable.false)
