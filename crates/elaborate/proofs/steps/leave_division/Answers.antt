use Rattle.std.proofs.Common.{map, sym, subst, refl}
use Rattle.std.specs.Prelude.{Ok, Err}
use Rattle.smt_meaning.specs.Sorts.{judge_divisible}
use Rattle.elaborate.specs.declared.frame.Frame.TheVariants.{Division}
use Rattle.elaborate.specs.Judged.{scope_of, rules_of}
use Rattle.elaborate.specs.Values.{typed, AreValues, Comes}
use Rattle.elaborate.specs.Steps.{is_divided}
use Rattle.elaborate.proofs.Moves.{popped, rest_waits, top_is, divided_holds, none_so, division_given, division_not}
use Rattle.elaborate.proofs.steps.leave_division.Goals as goal

pub apply_divisible-requires-clause-values : goal.apply_divisible-requires-clause-values
apply_divisible-requires-clause-values c =
    subst (AreValues c.args.store.now.trees) (sym c.as_slice.ensures) (divided_holds (scope_of c.args.table.now c.args.store.now.trees) c.args.walk.now c.in-Some-Division.number c.in-Some-Division.arguments c.pop.new.self (top_is c.args.walk.now c.in-Some-Division.field-0 (Division c.in-Some-Division.number c.in-Some-Division.arguments) c.pop.new.self c.in-Some-Division.ensures.some c.in-Some-Division.field-0-is) c.requires.stands).1

pub apply_divisible-requires-clause-divisor : goal.apply_divisible-requires-clause-divisor
apply_divisible-requires-clause-divisor c =
    (divided_holds (scope_of c.args.table.now c.args.store.now.trees) c.args.walk.now c.in-Some-Division.number c.in-Some-Division.arguments c.pop.new.self (top_is c.args.walk.now c.in-Some-Division.field-0 (Division c.in-Some-Division.number c.in-Some-Division.arguments) c.pop.new.self c.in-Some-Division.ensures.some c.in-Some-Division.field-0-is) c.requires.stands).0

pub give-requires-clause-none : goal.give-requires-clause-none
give-requires-clause-none c = none_so is_divided refl c.args.walk.now.answer c.args.walk.now.frames c.requires.kind

pub give-requires-clause-waits : goal.give-requires-clause-waits
give-requires-clause-waits c = rest_waits c.args.walk.now.frames c.in-Some-Division.field-0 c.pop.new.self c.in-Some-Division.ensures.some c.requires.stands.others

pub returns-in-Ok-give-clause-comes : goal.returns-in-Ok-give-clause-comes
returns-in-Ok-give-clause-comes c = λ tokens.
    division_given (rules_of c.args.rules) tokens c.args.walk.now c.give.new.walk c.in-Some-Division.number c.in-Some-Division.arguments c.pop.new.self c.in-Ok.value (scope_of c.args.table.now c.args.store.now.trees) c.apply_divisible.new.store.trees c.apply_divisible.ensures.longer.0 c.requires.stands
    (none_so is_divided refl c.args.walk.now.answer c.args.walk.now.frames c.requires.kind) (top_is c.args.walk.now c.in-Some-Division.field-0 (Division c.in-Some-Division.number c.in-Some-Division.arguments) c.pop.new.self c.in-Some-Division.ensures.some c.in-Some-Division.field-0-is) (subst (λ vs. Comes (judge_divisible (rules_of c.args.rules) c.in-Some-Division.number (map (typed c.args.store.now.trees) vs)) (scope_of c.args.table.now c.args.store.now.trees) c.apply_divisible.new.store.trees (Ok c.in-Ok.value)) c.as_slice.ensures c.in-Ok.ensures.comes)
    c.in-Ok-give.ensures

pub returns-in-Some-Division-clause-comes : goal.returns-in-Some-Division-clause-comes
returns-in-Some-Division-clause-comes c = λ tokens.
    division_not (rules_of c.args.rules) tokens c.args.walk.now (popped c.args.walk.now c.pop.new.self) c.in-Some-Division.number c.in-Some-Division.arguments c.pop.new.self (scope_of c.args.table.now c.args.store.now.trees) c.apply_divisible.new.store.trees (scope_of c.args.table.now c.apply_divisible.new.store.trees) c.in-Err.error
    (none_so is_divided refl c.args.walk.now.answer c.args.walk.now.frames c.requires.kind) (top_is c.args.walk.now c.in-Some-Division.field-0 (Division c.in-Some-Division.number c.in-Some-Division.arguments) c.pop.new.self c.in-Some-Division.ensures.some c.in-Some-Division.field-0-is) (subst (λ vs. Comes (judge_divisible (rules_of c.args.rules) c.in-Some-Division.number (map (typed c.args.store.now.trees) vs)) (scope_of c.args.table.now c.args.store.now.trees) c.apply_divisible.new.store.trees (Err c.in-Err.error)) c.as_slice.ensures c.in-Err.ensures.comes)
