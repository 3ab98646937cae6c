use Rattle.std.proofs.Common.{ap, sym, ◌∙◌, refl}
use Rattle.look_ahead.specs.Ahead.{ahead}
use Rattle.elaborate.specs.Steps.{is_name}
use Rattle.elaborate.proofs.Moves.{none_so, no}
use Rattle.elaborate.proofs.naming.word_or_name.Goals as goal

pub name_step-requires-clause-kind : goal.name_step-requires-clause-kind
name_step-requires-clause-kind c = (ap is_name (sym c.what_comes.ensures) ∙ sym c.is_name.ensures ∙ c.if-is_name.true)

pub name_step-requires-clause-none : goal.name_step-requires-clause-none
name_step-requires-clause-none c = none_so is_name refl c.args.walk.now.answer c.args.walk.now.frames (ap is_name (sym c.what_comes.ensures) ∙ sym c.is_name.ensures ∙ c.if-is_name.true)

pub returns-then-is_name-clause-comes : goal.returns-then-is_name-clause-comes
returns-then-is_name-clause-comes c = c.name_step.ensures.comes (ahead c.args.term.now c.args.place)

pub word-requires-clause-unnamed : goal.word-requires-clause-unnamed
word-requires-clause-unnamed c = λ e. absurd (no (sym (ap is_name (sym c.what_comes.ensures) ∙ sym c.is_name.ensures ∙ c.if-is_name.false) ∙ e))
