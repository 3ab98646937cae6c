use Rattle.std.proofs.Common.{refl, ◌∙◌, sym, inl, inr}
use Rattle.smt_reader.proofs.form.Form.next.Goals as goal
use Rattle.smt_reader.proofs.WordForms.{chosen_goes, simple_on, simple_off, zero_point, zero_off, digits_on, digits_point, digits_off, point_on, point_off, places_on, places_off, hash_hex, hash_binary, hash_off, mark_on, mark_off, behind_on, behind_off, hex, binary, keyword}

pub returns-in-Simple : goal.returns-in-Simple
returns-in-Simple c = chosen_goes _ _ _ _ _ _ _ c.chosen.ensures c.is_symbol_byte.ensures c.in-Simple.is (simple_on c.args.byte) (simple_off c.args.byte)

pub returns-in-Zero : goal.returns-in-Zero
returns-in-Zero c = chosen_goes _ _ _ _ _ _ _ c.chosen-in-Zero.ensures refl c.in-Zero.is (zero_point c.args.byte) (zero_off c.args.byte)

pub returns-in-Digits : goal.returns-in-Digits
returns-in-Digits c = rw c.in-Digits.is (digits_on c.args.byte (sym c.is_digit.ensures ∙ c.if-is_digit.true))

pub returns-in-Digits-2 : goal.returns-in-Digits-2
returns-in-Digits-2 c =
    chosen_goes _ _ _ _ _ _ _ c.chosen-in-Digits-2.ensures refl c.in-Digits-2.is
    (digits_point c.args.byte) (digits_off c.args.byte (sym c.is_digit.ensures ∙ c.if-is_digit.false))

pub returns-in-Point : goal.returns-in-Point
returns-in-Point c =
    elim c.in-Point.is [
      | inl is ↦ chosen_goes _ _ _ _ _ _ _ c.chosen-in-Point.ensures c.is_digit-in-Point.ensures is (point_on c.args.byte) (point_off c.args.byte)
      | inr is ↦ chosen_goes _ _ _ _ _ _ _ c.chosen-in-Point.ensures c.is_digit-in-Point.ensures is (places_on c.args.byte) (places_off c.args.byte)
    ]

pub returns-in-Hash : goal.returns-in-Hash
returns-in-Hash c = rw c.in-Hash.is (hash_hex c.args.byte c.if-byte-eq120.true)

pub returns-in-Hash-2 : goal.returns-in-Hash-2
returns-in-Hash-2 c =
    chosen_goes _ _ _ _ _ _ _ c.chosen-in-Hash-2.ensures refl c.in-Hash-2.is
    (hash_binary c.args.byte) (hash_off c.args.byte c.if-byte-eq120.false)

pub returns-in-HexMark : goal.returns-in-HexMark
returns-in-HexMark c =
    elim c.in-HexMark.is [
      | inl is ↦ chosen_goes _ _ _ _ _ _ _ c.chosen-in-HexMark.ensures c.is_hex_digit.ensures is (mark_on hex c.args.byte) (mark_off hex c.args.byte)
      | inr is ↦ chosen_goes _ _ _ _ _ _ _ c.chosen-in-HexMark.ensures c.is_hex_digit.ensures is (behind_on hex c.args.byte) (behind_off hex c.args.byte)
    ]

pub returns-in-BinaryMark : goal.returns-in-BinaryMark
returns-in-BinaryMark c =
    elim c.in-BinaryMark.is [
      | inl is ↦ chosen_goes _ _ _ _ _ _ _ c.chosen-in-BinaryMark.ensures c.is_binary_digit.ensures is (mark_on binary c.args.byte) (mark_off binary c.args.byte)
      | inr is ↦ chosen_goes _ _ _ _ _ _ _ c.chosen-in-BinaryMark.ensures c.is_binary_digit.ensures is (behind_on binary c.args.byte) (behind_off binary c.args.byte)
    ]

pub returns-in-Colon : goal.returns-in-Colon
returns-in-Colon c =
    elim c.in-Colon.is [
      | inl is ↦ chosen_goes _ _ _ _ _ _ _ c.chosen-in-Colon.ensures c.is_symbol_byte-in-Colon.ensures is (mark_on keyword c.args.byte) (mark_off keyword c.args.byte)
      | inr is ↦ chosen_goes _ _ _ _ _ _ _ c.chosen-in-Colon.ensures c.is_symbol_byte-in-Colon.ensures is (behind_on keyword c.args.byte) (behind_off keyword c.args.byte)
    ]
