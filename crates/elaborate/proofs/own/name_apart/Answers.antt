use Rattle.smt_sorts.specs.Names.{signature}
use Rattle.elaborate.specs.Judged.{scope_of, rules_of}
use Rattle.elaborate.proofs.Applied.{bare_applied}
use Rattle.elaborate.proofs.Names.{free_comes, free_function}
use Rattle.elaborate.proofs.Owned.{declared_is}
use Rattle.elaborate.proofs.own.name_apart.Goals as goal

pub own_value-requires-clause-declared : goal.own_value-requires-clause-declared
own_value-requires-clause-declared c = declared_is c.args.name.now (signature c.args.table.now) c.in-Some.declaration.now c.in-Some.ensures.found

pub returns-in-Some-clause-comes : goal.returns-in-Some-clause-comes
returns-in-Some-clause-comes c =
    free_comes (rules_of c.args.rules) c.args.name.now c.args.bindings.now (scope_of c.args.table.now c.args.store.now.trees) c.own_value.new.store.trees c.own_value.result c.in-Some.ensures.unbound
    (free_function (rules_of c.args.rules) c.args.name.now c.in-Some.declaration.now (scope_of c.args.table.now c.args.store.now.trees) c.own_value.new.store.trees c.own_value.result c.in-Some.ensures.no_operator c.in-Some.ensures.found
    (bare_applied (rules_of c.args.rules) c.args.name.now c.in-Some.declaration.now (scope_of c.args.table.now c.args.store.now.trees) c.own_value.new.store.trees c.own_value.result c.in-Some.ensures.count c.own_value.ensures.comes))
