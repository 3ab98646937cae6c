use Rattle.std.proofs.Common.{ap, sym, ◌∙◌, refl}
use Rattle.elaborate.specs.Judged.{scope_of, rules_of}
use Rattle.elaborate.specs.Steps.{is_answered, is_argument, is_divided, may_end}
use Rattle.elaborate.proofs.Moves.{none_so, leave_answered, leave_refused}
use Rattle.elaborate.proofs.steps.leave.Goals as goal

pub returns-then-is_answered-clause-comes : goal.returns-then-is_answered-clause-comes
returns-then-is_answered-clause-comes c = λ tokens. (leave_answered (rules_of c.args.rules) tokens (scope_of c.args.table.now c.args.store.now.trees) c.args.walk.now.answer c.args.walk.now.bindings c.args.walk.now.frames (ap is_answered (sym c.what_comes-kind.ensures) ∙ sym c.is_answered.ensures ∙ c.if-is_answered.true), c.requires.stands)

pub leave_application-requires-clause-kind : goal.leave_application-requires-clause-kind
leave_application-requires-clause-kind c = (ap is_argument (sym c.what_comes-kind.ensures) ∙ sym c.is_argument.ensures ∙ c.if-is_argument.true)

pub leave_division-requires-clause-kind : goal.leave_division-requires-clause-kind
leave_division-requires-clause-kind c = (ap is_divided (sym c.what_comes-kind.ensures) ∙ sym c.is_divided.ensures ∙ c.if-is_divided.true)

pub returns-clause-comes : goal.returns-clause-comes
returns-clause-comes c = λ tokens. leave_refused (rules_of c.args.rules) tokens (scope_of c.args.table.now c.args.store.now.trees) c.args.walk.now.answer c.args.walk.now.bindings c.args.walk.now.frames (ap is_answered (sym c.what_comes-kind.ensures) ∙ sym c.is_answered.ensures ∙ c.if-is_answered.false) (ap is_argument (sym c.what_comes-kind.ensures) ∙ sym c.is_argument.ensures ∙ c.if-is_argument.false) (ap is_divided (sym c.what_comes-kind.ensures) ∙ sym c.is_divided.ensures ∙ c.if-is_divided.false) (ap may_end (sym c.what_comes-kind.ensures) ∙ sym c.may_end.ensures ∙ c.if-may_end.false)

pub leave_form-requires-clause-none : goal.leave_form-requires-clause-none
leave_form-requires-clause-none c = none_so may_end refl c.args.walk.now.answer c.args.walk.now.frames (ap may_end (sym c.what_comes-kind.ensures) ∙ sym c.may_end.ensures ∙ c.if-may_end.true)

pub leave_form-requires-clause-kind : goal.leave_form-requires-clause-kind
leave_form-requires-clause-kind c = (ap may_end (sym c.what_comes-kind.ensures) ∙ sym c.may_end.ensures ∙ c.if-may_end.true)

pub leave_form-requires-clause-waits : goal.leave_form-requires-clause-waits
leave_form-requires-clause-waits c = c.requires.stands.others

pub returns-then-may_end-clause-comes : goal.returns-then-may_end-clause-comes
returns-then-may_end-clause-comes c = λ tokens. c.leave_form.ensures tokens (scope_of c.args.table.now c.args.store.now.trees) (rules_of c.args.rules) c.requires.stands
