use Rattle.std.proofs.Common.{◌∙◌, sym}
use Rattle.elaborate.specs.Judged.{scope_of, rules_of}
use Rattle.elaborate.proofs.Applied.{operator_count, operator_sorts, operator_linear, operator_result}
use Rattle.elaborate.proofs.apply.apply_operator.Goals as goal

pub returns-then-not-takes-clause-comes : goal.returns-then-not-takes-clause-comes
returns-then-not-takes-clause-comes c =
    operator_count (rules_of c.args.rules) c.args.name.now c.args.operator c.args.arguments.now (scope_of c.args.table.now c.args.store.now.trees) c.args.store.now.trees c.wrong_count.result (sym c.takes.ensures ∙ c.if-not-takes.true) c.wrong_count.ensures

pub returns-in-None-clause-comes : goal.returns-in-None-clause-comes
returns-in-None-clause-comes c =
    operator_sorts (rules_of c.args.rules) c.args.name.now c.args.operator c.args.arguments.now (scope_of c.args.table.now c.args.store.now.trees) c.args.store.now.trees c.wrong_sorts.result (sym c.takes.ensures ∙ c.if-not-takes.false) (sym c.in-None.ensures) c.wrong_sorts.ensures

pub returns-then-not-may_stand-clause-comes : goal.returns-then-not-may_stand-clause-comes
returns-then-not-may_stand-clause-comes c =
    operator_linear (rules_of c.args.rules) c.args.name.now c.args.operator c.args.arguments.now c.in-Some.sort (scope_of c.args.table.now c.args.store.now.trees) (sym c.takes.ensures ∙ c.if-not-takes.false) (sym c.in-Some.ensures)
    (sym (rw c.is_linear_operation.ensures at c.may_stand.ensures) ∙ c.if-not-may_stand.true)

pub returns-clause-comes : goal.returns-clause-comes
returns-clause-comes c =
    operator_result (rules_of c.args.rules) c.args.name.now c.args.operator c.args.arguments.now c.in-Some.sort (scope_of c.args.table.now c.args.store.now.trees) c.operated.new.store.trees c.operated.result (sym c.takes.ensures ∙ c.if-not-takes.false) (sym c.in-Some.ensures)
    (sym (rw c.is_linear_operation.ensures at c.may_stand.ensures) ∙ c.if-not-may_stand.false) c.operated.ensures.ok c.operated.ensures.memory
