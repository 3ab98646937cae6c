use Rattle.std.proofs.Common.{◌∙◌, sym}
use Rattle.smt_reader.proofs.part.quoted_step.Goals as goal
use Rattle.smt_reader.proofs.PartSteps.{quoted_closes, quoted_backslash, quoted_adds, quoted_wrong}

pub returns-then-byte-eq124 : goal.returns-then-byte-eq124
returns-then-byte-eq124 c = quoted_closes c.args.byte c.if-byte-eq124.true

pub returns-then-byte-eq92 : goal.returns-then-byte-eq92
returns-then-byte-eq92 c = quoted_backslash c.args.byte c.if-byte-eq92.true

pub returns-then-is_printable : goal.returns-then-is_printable
returns-then-is_printable c =
    quoted_adds c.args.byte c.if-byte-eq124.false c.if-byte-eq92.false (sym c.is_printable.ensures ∙ c.if-is_printable.true)

pub returns-else-is_printable : goal.returns-else-is_printable
returns-else-is_printable c = quoted_wrong c.args.byte c.if-byte-eq124.false (sym c.is_printable.ensures ∙ c.if-is_printable.false)
