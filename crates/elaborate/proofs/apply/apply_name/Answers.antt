use Rattle.std.proofs.Common.{sym, subst}
use Rattle.elaborate.specs.Judged.{scope_of, rules_of}
use Rattle.elaborate.specs.Values.{AreValues}
use Rattle.elaborate.proofs.Names.{applied_operator, applied_function, applied_unknown}
use Rattle.elaborate.proofs.apply.apply_name.Goals as goal

pub apply_operator-requires : goal.apply_operator-requires
apply_operator-requires c = subst (AreValues c.args.store.now.trees) (sym c.as_slice-given.ensures) c.requires

pub apply_function-requires : goal.apply_function-requires
apply_function-requires c = subst (AreValues c.args.store.now.trees) (sym c.as_slice-given.ensures) c.requires

pub returns-in-Some-clause-comes : goal.returns-in-Some-clause-comes
returns-in-Some-clause-comes c =
    applied_operator (rules_of c.args.rules) c.args.name.now c.as_slice-name.result.now c.args.operator c.in-Some.known c.args.arguments.now c.as_slice-given.result.now (scope_of c.args.table.now c.args.store.now.trees) c.apply_operator.new.store.trees c.apply_operator.result c.as_slice-name.ensures c.as_slice-given.ensures
    c.in-Some.is c.apply_operator.ensures.comes

pub returns-in-Some-lookup-clause-comes : goal.returns-in-Some-lookup-clause-comes
returns-in-Some-lookup-clause-comes c =
    applied_function (rules_of c.args.rules) c.args.name.now c.as_slice-name.result.now c.args.operator c.in-Some-lookup.declaration.now c.args.arguments.now c.as_slice-given.result.now (scope_of c.args.table.now c.args.store.now.trees) c.apply_function.new.store.trees c.apply_function.result c.as_slice-name.ensures c.as_slice-given.ensures
    c.in-None.is c.in-Some-lookup.ensures.some c.apply_function.ensures.comes

pub returns-in-None-lookup-clause-comes : goal.returns-in-None-lookup-clause-comes
returns-in-None-lookup-clause-comes c =
    applied_unknown (rules_of c.args.rules) c.args.name.now c.as_slice-name.result.now c.args.operator c.args.arguments.now (scope_of c.args.table.now c.args.store.now.trees) c.args.store.now.trees c.unknown.result c.as_slice-name.ensures c.in-None.is c.in-None-lookup.ensures.none c.unknown.ensures
