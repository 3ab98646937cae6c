use Rattle.std.proofs.Common.{sym}
use Rattle.elaborate.specs.Judged.{scope_of, rules_of}
use Rattle.elaborate.proofs.Names.{free_operator, free_function, free_unknown}
use Rattle.elaborate.proofs.token.judge_free.Goals as goal

pub returns-in-Some-clause-comes : goal.returns-in-Some-clause-comes
returns-in-Some-clause-comes c =
    free_operator (rules_of c.args.rules) c.args.name.now c.in-Some.operator (scope_of c.args.table.now c.args.store.now.trees) c.bare_operator.new.store.trees c.bare_operator.result (sym c.in-Some.ensures) c.bare_operator.ensures.comes

pub returns-in-Some-lookup-clause-comes : goal.returns-in-Some-lookup-clause-comes
returns-in-Some-lookup-clause-comes c =
    free_function (rules_of c.args.rules) c.args.name.now c.in-Some-lookup.declaration.now (scope_of c.args.table.now c.args.store.now.trees) c.bare_function.new.store.trees c.bare_function.result (sym c.in-None.ensures) c.in-Some-lookup.ensures.some c.bare_function.ensures.comes

pub returns-in-None-lookup-clause-comes : goal.returns-in-None-lookup-clause-comes
returns-in-None-lookup-clause-comes c =
    free_unknown (rules_of c.args.rules) c.args.name.now (scope_of c.args.table.now c.args.store.now.trees) c.args.store.now.trees c.unknown.result (sym c.in-None.ensures) c.in-None-lookup.ensures.none c.unknown.ensures
