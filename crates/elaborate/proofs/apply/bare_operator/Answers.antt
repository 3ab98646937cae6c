use Rattle.std.proofs.Common.{◌∙◌, sym}
use Rattle.elaborate.specs.Judged.{scope_of, rules_of}
use Rattle.elaborate.proofs.Applied.{bare_refused, bare_result}
use Rattle.elaborate.proofs.apply.bare_operator.Goals as goal

pub returns-then-not-stands_bare-clause-comes : goal.returns-then-not-stands_bare-clause-comes
returns-then-not-stands_bare-clause-comes c =
    bare_refused (rules_of c.args.rules) c.args.name.now c.args.operator (scope_of c.args.table.now c.args.store.now.trees) c.args.store.now.trees c.wrong_count.result (sym c.stands_bare.ensures ∙ c.if-not-stands_bare.true) c.wrong_count.ensures

pub returns-clause-comes : goal.returns-clause-comes
returns-clause-comes c =
    bare_result (rules_of c.args.rules) c.args.name.now c.args.operator (scope_of c.args.table.now c.args.store.now.trees) c.stored.new.store.trees c.stored.result (sym c.stands_bare.ensures ∙ c.if-not-stands_bare.false) c.stored.ensures.ok c.stored.ensures.memory
