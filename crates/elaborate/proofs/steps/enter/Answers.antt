use Rattle.std.proofs.Common.{ap, sym, ◌∙◌, refl}
use Rattle.look_ahead.specs.Ahead.{ahead}
use Rattle.elaborate.specs.Steps.{is_answered, awaits_term, takes_list, is_head}
use Rattle.elaborate.proofs.Moves.{enter_answered, enter_push, enter_refused, none_so}
use Rattle.elaborate.proofs.steps.enter.Goals as goal

pub returns-then-is_answered : goal.returns-then-is_answered
returns-then-is_answered c = λ s st. (enter_answered (ahead c.args.term.now c.args.place) c.args.term.now s c.args.walk.now.answer c.args.walk.now.bindings c.args.walk.now.frames (ap is_answered (sym c.what_comes-kind.ensures) ∙ sym c.is_answered.ensures ∙ c.if-is_answered.true), st)

pub returns-then-awaits_term : goal.returns-then-awaits_term
returns-then-awaits_term c = λ s st. enter_push (ahead c.args.term.now c.args.place) c.args.term.now s c.args.walk.now c.push.new.walk c.push.result st (ap awaits_term (sym c.what_comes-kind.ensures) ∙ sym c.awaits_term.ensures ∙ c.if-awaits_term.true) c.push.ensures.ok c.push.ensures.memory

pub enter_form-requires-clause-kind : goal.enter_form-requires-clause-kind
enter_form-requires-clause-kind c = (ap takes_list (sym c.what_comes-kind.ensures) ∙ sym c.takes_list.ensures ∙ c.if-takes_list.true)

pub enter_form-requires-clause-none : goal.enter_form-requires-clause-none
enter_form-requires-clause-none c = none_so takes_list refl c.args.walk.now.answer c.args.walk.now.frames (ap takes_list (sym c.what_comes-kind.ensures) ∙ sym c.takes_list.ensures ∙ c.if-takes_list.true)

pub returns : goal.returns
returns c = λ s st. enter_refused (ahead c.args.term.now c.args.place) c.args.term.now s c.args.walk.now.answer c.args.walk.now.bindings c.args.walk.now.frames (ap is_answered (sym c.what_comes-kind.ensures) ∙ sym c.is_answered.ensures ∙ c.if-is_answered.false) (ap awaits_term (sym c.what_comes-kind.ensures) ∙ sym c.awaits_term.ensures ∙ c.if-awaits_term.false) (ap takes_list (sym c.what_comes-kind.ensures) ∙ sym c.takes_list.ensures ∙ c.if-takes_list.false) (ap is_head (sym c.what_comes-kind.ensures) ∙ sym c.is_head.ensures ∙ c.if-is_head.false)

pub returns-then-takes_list : goal.returns-then-takes_list
returns-then-takes_list c = λ s st. c.enter_form.ensures c.args.term.now s (ahead c.args.term.now c.args.place) st

pub enter_head-requires-clause-kind : goal.enter_head-requires-clause-kind
enter_head-requires-clause-kind c = (ap is_head (sym c.what_comes-kind.ensures) ∙ sym c.is_head.ensures ∙ c.if-is_head.true)
