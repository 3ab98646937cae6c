use Rattle.std.proofs.Common.{refl}
use Rattle.elaborate.specs.declared.frame.Frame.TheVariants.{Application}
use Rattle.elaborate.specs.Judged.{scope_of, rules_of}
use Rattle.elaborate.specs.Steps.{is_argument}
use Rattle.elaborate.proofs.Moves.{popped, rest_waits, top_is, top_values, none_so, leave_given, leave_not}
use Rattle.elaborate.proofs.apart.leave_apart.Goals as goal

pub apply_apart-requires-clause-values : goal.apply_apart-requires-clause-values
apply_apart-requires-clause-values c =
    top_values (scope_of c.args.table.now c.args.store.now.trees) c.args.walk.now c.in-Some-Application.name c.in-Some-Application.operator c.in-Some-Application.arguments c.pop.new.self
    (top_is c.args.walk.now c.in-Some-Application.field-0 (Application c.in-Some-Application.name c.in-Some-Application.operator c.in-Some-Application.arguments) c.pop.new.self c.in-Some-Application.ensures.some c.in-Some-Application.field-0-is) c.requires.stands

pub give-requires-clause-none : goal.give-requires-clause-none
give-requires-clause-none c = none_so is_argument refl c.args.walk.now.answer c.args.walk.now.frames c.requires.kind

pub give-requires-clause-waits : goal.give-requires-clause-waits
give-requires-clause-waits c = rest_waits c.args.walk.now.frames c.in-Some-Application.field-0 c.pop.new.self c.in-Some-Application.ensures.some c.requires.stands.others

pub returns-in-Ok-give-clause-comes : goal.returns-in-Ok-give-clause-comes
returns-in-Ok-give-clause-comes c = λ tokens.
    leave_given (rules_of c.args.rules) tokens c.args.walk.now c.give.new.walk c.in-Some-Application.name c.in-Some-Application.operator c.in-Some-Application.arguments c.pop.new.self c.in-Ok.value (scope_of c.args.table.now c.args.store.now.trees) c.apply_apart.new.store.trees c.apply_apart.ensures.longer.0 c.requires.stands
    (none_so is_argument refl c.args.walk.now.answer c.args.walk.now.frames c.requires.kind)
    (top_is c.args.walk.now c.in-Some-Application.field-0 (Application c.in-Some-Application.name c.in-Some-Application.operator c.in-Some-Application.arguments) c.pop.new.self c.in-Some-Application.ensures.some c.in-Some-Application.field-0-is)
    c.in-Ok.ensures.comes c.in-Ok-give.ensures

pub returns-in-Some-Application-clause-comes : goal.returns-in-Some-Application-clause-comes
returns-in-Some-Application-clause-comes c = λ tokens.
    leave_not (rules_of c.args.rules) tokens c.args.walk.now (popped c.args.walk.now c.pop.new.self) c.in-Some-Application.name c.in-Some-Application.operator c.in-Some-Application.arguments c.pop.new.self (scope_of c.args.table.now c.args.store.now.trees) c.apply_apart.new.store.trees (scope_of c.args.table.now c.apply_apart.new.store.trees) c.in-Err.error
    (none_so is_argument refl c.args.walk.now.answer c.args.walk.now.frames c.requires.kind)
    (top_is c.args.walk.now c.in-Some-Application.field-0 (Application c.in-Some-Application.name c.in-Some-Application.operator c.in-Some-Application.arguments) c.pop.new.self c.in-Some-Application.ensures.some c.in-Some-Application.field-0-is)
    c.in-Err.ensures.comes
