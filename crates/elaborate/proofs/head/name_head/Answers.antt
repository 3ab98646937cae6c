use Rattle.std.proofs.Common.{sym}
use Rattle.elaborate.specs.Judged.{scope_of, rules_of}
use Rattle.elaborate.proofs.Heads.{head_variable, head_operator, head_function, head_unknown}
use Rattle.elaborate.proofs.head.name_head.Goals as goal

pub returns-in-Some : goal.returns-in-Some
returns-in-Some c = λ tokens ahead ts.
    head_variable (rules_of c.args.rules) c.args.name.now ahead (scope_of c.args.table.now ts) tokens c.args.bindings.now c.in-Some.field-0 c.wrong_count.result (sym c.in-Some.ensures) c.wrong_count.ensures

pub returns-in-Some-operator_named : goal.returns-in-Some-operator_named
returns-in-Some-operator_named c = λ tokens ahead ts.
    head_operator (rules_of c.args.rules) c.args.name.now ahead (scope_of c.args.table.now ts) tokens c.args.bindings.now c.in-Some-operator_named.operator c.application.result (sym c.in-None.ensures) (sym c.in-Some-operator_named.ensures)
    c.application.ensures.ok c.application.ensures.memory

pub returns-in-Some-lookup : goal.returns-in-Some-lookup
returns-in-Some-lookup c = λ tokens ahead ts.
    head_function (rules_of c.args.rules) c.args.name.now ahead (scope_of c.args.table.now ts) tokens c.args.bindings.now c.in-Some-lookup.field-0.now c.application-in-Some-lookup.result (sym c.in-None.ensures) (sym c.in-None-operator_named.ensures)
    c.in-Some-lookup.ensures.some c.application-in-Some-lookup.ensures.ok c.application-in-Some-lookup.ensures.memory

pub returns-in-None-lookup : goal.returns-in-None-lookup
returns-in-None-lookup c = λ tokens ahead ts.
    head_unknown (rules_of c.args.rules) c.args.name.now ahead (scope_of c.args.table.now ts) tokens c.args.bindings.now c.unknown.result (sym c.in-None.ensures) (sym c.in-None-operator_named.ensures) c.in-None-lookup.ensures.none c.unknown.ensures
