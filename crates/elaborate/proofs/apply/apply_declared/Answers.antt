use Rattle.std.proofs.Common.{◌∙◌, sym, ap}
use Rattle.smt_meaning.specs.declared.declarations.Rank.{Rank}
use Rattle.elaborate.specs.Judged.{scope_of, rules_of}
use Rattle.elaborate.proofs.Applied.{symbol_linear, symbol_result}
use Rattle.elaborate.proofs.apply.apply_declared.Goals as goal

pub returns-then-not-may_stand-clause-comes : goal.returns-then-not-may_stand-clause-comes
returns-then-not-may_stand-clause-comes c =
    symbol_linear (rules_of c.args.rules) c.args.declaration.now c.args.arguments.now (scope_of c.args.table.now c.args.store.now.trees) c.requires.values c.requires.declared (sym (rw c.are_linear.ensures at c.may_stand.ensures) ∙ c.if-not-may_stand.true)

pub returns-clause-comes : goal.returns-clause-comes
returns-clause-comes c =
    symbol_result (rules_of c.args.rules) c.args.declaration.now c.id-id.result c.rank-rank.result.now.result c.args.arguments.now (scope_of c.args.table.now c.args.store.now.trees) c.stored.new.store.trees c.stored.result c.requires.values c.requires.declared (sym (rw c.are_linear.ensures at c.may_stand.ensures) ∙ c.if-not-may_stand.false)
    c.id-id.ensures (ap (λ (q : Rank). q.result) c.rank-rank.ensures) c.stored.ensures.ok c.stored.ensures.memory
