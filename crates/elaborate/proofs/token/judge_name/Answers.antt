use Rattle.std.proofs.Common.{sym}
use Rattle.elaborate.specs.Judged.{scope_of, rules_of}
use Rattle.elaborate.proofs.Names.{variable_comes, free_comes}
use Rattle.elaborate.proofs.token.judge_name.Goals as goal

pub returns-in-Some-clause-comes : goal.returns-in-Some-clause-comes
returns-in-Some-clause-comes c =
    variable_comes (rules_of c.args.rules) c.args.name.now c.args.bindings.now c.in-Some.value (scope_of c.args.table.now c.args.store.now.trees) (sym c.in-Some.ensures) c.requires

pub returns-in-None-clause-comes : goal.returns-in-None-clause-comes
returns-in-None-clause-comes c =
    free_comes (rules_of c.args.rules) c.args.name.now c.args.bindings.now (scope_of c.args.table.now c.args.store.now.trees) c.judge_free.new.store.trees c.judge_free.result (sym c.in-None.ensures) c.judge_free.ensures.comes
