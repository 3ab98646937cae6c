use Rattle.std.proofs.Common.{◌≡◌, ℕ, Bool, true, not, ◌&&◌, arith, eqb}
use Rattle.std.proofs.lemmas.Grind.{common_steps}
use Rattle.smt_meaning.specs.Reading.{is_printable}
use Rattle.smt_reader.specs.declared.part.Part.TheVariants.{Text, Quoted}
use Rattle.smt_reader.proofs.PartSteps.{text_adds, quoted_adds}
use Rattle.smt_reader.proofs.PartRuns.{extends_while}
use Rattle.smt_reader.proofs.part.Part.extends.Goals as goal

plain : (b : ℕ) (is : Bool) → (not (eqb b 34) && is) ≡ true → (b ≡ 34 → ⊥) × (is ≡ true)
plain b is h = (λ e. absurd (grind (arith, common_steps)), grind (arith, common_steps))

quoted : (b : ℕ) (is : Bool) → (not (eqb b 124) && not (eqb b 92) && is) ≡ true → (b ≡ 124 → ⊥) × (b ≡ 92 → ⊥) × (is ≡ true)
quoted b is h = (λ e. absurd (grind (arith, common_steps)), λ e. absurd (grind (arith, common_steps)), grind (arith, common_steps))

pub returns-in-Text : goal.returns-in-Text
returns-in-Text c =
    rw (c.in-Text.is, c.leading_text.ensures)
    (extends_while Text (λ b. not (eqb b 34) && is_printable b) (λ b h. let p = plain b (is_printable b) h in text_adds b p.0 p.1) c.args.bytes.now)

pub returns-in-Quoted : goal.returns-in-Quoted
returns-in-Quoted c =
    rw (c.in-Quoted.is, c.leading_quoted.ensures)
    (extends_while Quoted (λ b. not (eqb b 124) && not (eqb b 92) && is_printable b) (λ b h. let p = quoted b (is_printable b) h in quoted_adds b p.0 p.1 p.2) c.args.bytes.now)
