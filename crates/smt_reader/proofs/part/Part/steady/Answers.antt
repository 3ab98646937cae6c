use Rattle.std.proofs.Common.{◌≡◌, ℕ, true, not, ◌||◌, arith, eqb}
use Rattle.std.proofs.lemmas.Grind.{common_steps}
use Rattle.smt_meaning.specs.Reading.{is_blank}
use Rattle.smt_reader.specs.declared.part.Part.TheVariants.{Blank, Comment}
use Rattle.smt_reader.proofs.PartSteps.{blank_on, comment_on}
use Rattle.smt_reader.proofs.PartRuns.{passes_while}
use Rattle.smt_reader.proofs.part.Part.steady.Goals as goal

pub returns-in-Blank : goal.returns-in-Blank
returns-in-Blank c = rw (c.in-Blank.is, c.leading_blanks.ensures) (passes_while Blank is_blank blank_on c.args.bytes.now)

no_line_end : (b : ℕ) → not (eqb b 10 || eqb b 13) ≡ true → (b ≡ 10 → ⊥) × (b ≡ 13 → ⊥)
no_line_end b h = (λ e. absurd (grind (arith, common_steps)), λ e. absurd (grind (arith, common_steps)))

pub returns-in-Comment : goal.returns-in-Comment
returns-in-Comment c =
    rw (c.in-Comment.is, c.first_line.ensures)
    (passes_while Comment (λ b. not (eqb b 10 || eqb b 13)) (λ b h. comment_on b (no_line_end b h)) c.args.bytes.now)
