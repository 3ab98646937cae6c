use Rattle.std.proofs.Common.{◌∙◌, sym}
use Rattle.smt_reader.proofs.form.Form.begin.Goals as goal
use Rattle.smt_reader.proofs.WordForms.{begins_zero, begins_digits, begins_simple, begins_hash, begins_colon, begins_none}

pub returns-then-byte-eq48 : goal.returns-then-byte-eq48
returns-then-byte-eq48 c = begins_zero c.args.byte c.if-byte-eq48.true

pub returns-then-is_digit : goal.returns-then-is_digit
returns-then-is_digit c = begins_digits c.args.byte c.if-byte-eq48.false (sym c.is_digit.ensures ∙ c.if-is_digit.true)

pub returns-then-is_symbol_byte : goal.returns-then-is_symbol_byte
returns-then-is_symbol_byte c =
    begins_simple c.args.byte (sym c.is_digit.ensures ∙ c.if-is_digit.false) (sym c.is_symbol_byte.ensures ∙ c.if-is_symbol_byte.true)

pub returns-then-byte-eq35 : goal.returns-then-byte-eq35
returns-then-byte-eq35 c = begins_hash c.args.byte c.if-byte-eq35.true

pub returns-then-byte-eq58 : goal.returns-then-byte-eq58
returns-then-byte-eq58 c = begins_colon c.args.byte c.if-byte-eq58.true

pub returns-else-byte-eq58 : goal.returns-else-byte-eq58
returns-else-byte-eq58 c = begins_none c.args.byte (sym c.is_symbol_byte.ensures ∙ c.if-is_symbol_byte.false) c.if-byte-eq35.false c.if-byte-eq58.false
