use Rattle.std.proofs.Common.{◌∙◌}
use Rattle.elaborate.specs.Judged.{scope_of, rules_of}
use Rattle.elaborate.specs.Frames.{is_open_at}
use Rattle.elaborate.specs.Values.{typed}
use Rattle.elaborate.proofs.Named.{naming_not, naming_open, naming_new, naming_old}
use Rattle.elaborate.proofs.naming.give_name.Goals as goal

pub returns-in-Ok-true-clause-comes : goal.returns-in-Ok-true-clause-comes
returns-in-Ok-true-clause-comes c =
    naming_open (rules_of c.args.rules) (is_open_at c.args.term.now c.args.store.now.trees c.args.bindings.now c.args.place) (typed c.args.store.now.trees c.args.value) c.args.name.now (scope_of c.args.table.now c.args.store.now.trees) (c.in-Ok-true.ensures c.args.store.now.trees ∙ c.in-Ok-true.field-0-test)

pub returns-in-Ok-clause-comes : goal.returns-in-Ok-clause-comes
returns-in-Ok-clause-comes c =
    naming_new (rules_of c.args.rules) (is_open_at c.args.term.now c.args.store.now.trees c.args.bindings.now c.args.place) (typed c.args.store.now.trees c.args.value) c.args.name.now (scope_of c.args.table.now c.args.store.now.trees) (scope_of c.define.new.table c.args.store.now.trees) c.define.result
    c.if-rules.true (c.in-Ok-false.ensures c.args.store.now.trees ∙ c.in-Ok-false.field-0-test) c.in-Ok.ensures.ok.unreserved c.in-Ok.ensures.ok.undeclared c.define.ensures.comes

pub returns-in-Err-check_new-clause-comes : goal.returns-in-Err-check_new-clause-comes
returns-in-Err-check_new-clause-comes c =
    naming_old (rules_of c.args.rules) (is_open_at c.args.term.now c.args.store.now.trees c.args.bindings.now c.args.place) (typed c.args.store.now.trees c.args.value) c.args.name.now (scope_of c.args.table.now c.args.store.now.trees) (scope_of c.args.table.now c.args.store.now.trees) c.in-Err-check_new.error
    c.if-rules.true (c.in-Ok-false.ensures c.args.store.now.trees ∙ c.in-Ok-false.field-0-test) c.in-Err-check_new.ensures.err

pub returns-clause-comes : goal.returns-clause-comes
returns-clause-comes c =
    naming_not (rules_of c.args.rules) (is_open_at c.args.term.now c.args.store.now.trees c.args.bindings.now c.args.place) (typed c.args.store.now.trees c.args.value) c.args.name.now (scope_of c.args.table.now c.args.store.now.trees) c.if-rules.false
