use Rattle.std.proofs.Common.{ap, sym, ◌∙◌, refl}
use Rattle.smt_meaning.specs.Seen.{seen}
use Rattle.look_ahead.specs.Ahead.{ahead}
use Rattle.elaborate.specs.Judged.{scope_of, rules_of}
use Rattle.elaborate.specs.Steps.{is_past, awaits_term, is_head, takes_word}
use Rattle.elaborate.proofs.Moves.{none_so, word_past, word_wrong}
use Rattle.elaborate.proofs.steps.word.Goals as goal

pub returns-then-is_past-clause-comes : goal.returns-then-is_past-clause-comes
returns-then-is_past-clause-comes c = (word_past (rules_of c.args.rules) c.args.term.now (scope_of c.args.table.now c.args.store.now.trees) c.args.walk.now.answer c.args.walk.now.bindings c.args.walk.now.frames (seen c.args.token) (ahead c.args.term.now c.args.place) (ap is_past (sym c.what_comes-kind.ensures) ∙ sym c.is_past.ensures ∙ c.if-is_past.true), c.requires.stands)

pub word_term-requires-clause-kind : goal.word_term-requires-clause-kind
word_term-requires-clause-kind c = (ap awaits_term (sym c.what_comes-kind.ensures) ∙ sym c.awaits_term.ensures ∙ c.if-awaits_term.true)

pub returns-then-awaits_term-clause-comes : goal.returns-then-awaits_term-clause-comes
returns-then-awaits_term-clause-comes c = c.word_term.ensures.comes c.args.term.now (ahead c.args.term.now c.args.place)

pub head-requires-clause-kind : goal.head-requires-clause-kind
head-requires-clause-kind c = (ap is_head (sym c.what_comes-kind.ensures) ∙ sym c.is_head.ensures ∙ c.if-is_head.true)

pub returns-then-is_head-clause-comes : goal.returns-then-is_head-clause-comes
returns-then-is_head-clause-comes c = c.head.ensures c.args.store.now.trees c.requires.stands

pub returns-clause-comes : goal.returns-clause-comes
returns-clause-comes c =
    word_wrong (rules_of c.args.rules) c.args.term.now (scope_of c.args.table.now c.args.store.now.trees) c.args.walk.now.answer c.args.walk.now.bindings c.args.walk.now.frames (seen c.args.token) (ahead c.args.term.now c.args.place) (ap is_past (sym c.what_comes-kind.ensures) ∙ sym c.is_past.ensures ∙ c.if-is_past.false) (ap awaits_term (sym c.what_comes-kind.ensures) ∙ sym c.awaits_term.ensures ∙ c.if-awaits_term.false) (ap is_head (sym c.what_comes-kind.ensures) ∙ sym c.is_head.ensures ∙ c.if-is_head.false) (ap takes_word (sym c.what_comes-kind.ensures) ∙ sym c.takes_word.ensures ∙ c.if-takes_word.false)

pub word_form-requires-clause-kind : goal.word_form-requires-clause-kind
word_form-requires-clause-kind c = (ap takes_word (sym c.what_comes-kind.ensures) ∙ sym c.takes_word.ensures ∙ c.if-takes_word.true)

pub word_form-requires-clause-none : goal.word_form-requires-clause-none
word_form-requires-clause-none c = none_so takes_word refl c.args.walk.now.answer c.args.walk.now.frames (ap takes_word (sym c.what_comes-kind.ensures) ∙ sym c.takes_word.ensures ∙ c.if-takes_word.true)

pub returns-then-takes_word-clause-comes : goal.returns-then-takes_word-clause-comes
returns-then-takes_word-clause-comes c = c.word_form.ensures c.args.term.now (scope_of c.args.table.now c.args.store.now.trees) (ahead c.args.term.now c.args.place) c.requires.stands
