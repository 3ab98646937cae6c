use Rattle.smt_sorts.specs.Names.{signature}
use Rattle.elaborate.specs.Judged.{scope_of, rules_of}
use Rattle.elaborate.proofs.Applied.{function_applied}
use Rattle.elaborate.proofs.Names.{applied_function}
use Rattle.elaborate.proofs.Owned.{declared_is}
use Rattle.elaborate.proofs.own.apply_apart.Goals as goal

pub own_value-requires-clause-declared : goal.own_value-requires-clause-declared
own_value-requires-clause-declared c = declared_is c.as_slice.result.now (signature c.args.table.now) c.in-Some.declaration.now c.in-Some.ensures.found

pub returns-in-Some-clause-comes : goal.returns-in-Some-clause-comes
returns-in-Some-clause-comes c =
    applied_function (rules_of c.args.rules) c.args.name.now c.as_slice.result.now c.args.operator c.in-Some.declaration.now c.args.arguments.now c.as_slice-given.result.now (scope_of c.args.table.now c.args.store.now.trees) c.own_value.new.store.trees c.own_value.result c.as_slice.ensures c.as_slice-given.ensures
    c.in-Some.ensures.no_operator c.in-Some.ensures.found
    (function_applied (rules_of c.args.rules) c.as_slice.result.now c.in-Some.declaration.now c.as_slice-given.result.now (scope_of c.args.table.now c.args.store.now.trees) c.own_value.new.store.trees c.own_value.result c.in-Some.ensures.count c.in-Some.ensures.sorts c.own_value.ensures.comes)
