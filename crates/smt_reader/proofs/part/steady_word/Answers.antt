use Rattle.std.proofs.Common.{inl, inr}
use Rattle.smt_meaning.specs.Reading.{is_digit, is_symbol_byte}
use Rattle.smt_reader.specs.declared.form.Form.TheVariants.{Simple, Digits, Places, Named}
use Rattle.smt_reader.specs.declared.part.Part.TheVariants.{Word}
use Rattle.smt_reader.proofs.WordForms.{simple_on, digits_on, places_on, behind_on, keyword}
use Rattle.smt_reader.proofs.PartSteps.{word_on}
use Rattle.smt_reader.proofs.PartRuns.{passes_while}
use Rattle.smt_reader.proofs.part.steady_word.Goals as goal

pub returns-in-Simple : goal.returns-in-Simple
returns-in-Simple c =
    let bytes = c.args.bytes.now in
    elim c.in-Simple.is [
      | inl is ↦ rw (is, c.leading_symbol_bytes.ensures) (passes_while (Word Simple) is_symbol_byte (λ b h. word_on Simple b Simple (simple_on b h)) bytes)
      | inr is ↦ rw (is, c.leading_symbol_bytes.ensures) (passes_while (Word Named) is_symbol_byte (λ b h. word_on Named b Named (behind_on keyword b h)) bytes)
    ]

pub returns-in-Digits : goal.returns-in-Digits
returns-in-Digits c =
    let bytes = c.args.bytes.now in
    elim c.in-Digits.is [
      | inl is ↦ rw (is, c.leading_digits.ensures) (passes_while (Word Digits) is_digit (λ b h. word_on Digits b Digits (digits_on b h)) bytes)
      | inr is ↦ rw (is, c.leading_digits.ensures) (passes_while (Word Places) is_digit (λ b h. word_on Places b Places (places_on b h)) bytes)
    ]
