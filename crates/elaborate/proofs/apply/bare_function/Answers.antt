use Rattle.std.proofs.Common.{◌≡◌, ◌∙◌, sym, ap, length, nat_eq}
use Rattle.smt_meaning.specs.declared.declarations.Rank.{Rank}
use Rattle.elaborate.specs.Judged.{scope_of, rules_of}
use Rattle.elaborate.proofs.Applied.{bare_count, bare_applied}
use Rattle.elaborate.proofs.apply.bare_function.Goals as goal

pub returns-then-not-is_zero-clause-comes : goal.returns-then-not-is_zero-clause-comes
returns-then-not-is_zero-clause-comes c =
    let same : nat_eq (length c.args.declaration.now.rank.arguments) 0 ≡ nat_eq c.len-count.result 0 = ap (λ (q : Rank). nat_eq (length q.arguments) 0) (sym c.rank-rank.ensures) ∙ ap (λ n. nat_eq n 0) (sym c.len-count.ensures) in
    bare_count (rules_of c.args.rules) c.args.name.now c.args.declaration.now (scope_of c.args.table.now c.args.store.now.trees) c.args.store.now.trees c.wrong_count.result (same ∙ sym c.is_zero.ensures ∙ c.if-not-is_zero.true) c.wrong_count.ensures

pub returns-clause-comes : goal.returns-clause-comes
returns-clause-comes c =
    let same : nat_eq (length c.args.declaration.now.rank.arguments) 0 ≡ nat_eq c.len-count.result 0 = ap (λ (q : Rank). nat_eq (length q.arguments) 0) (sym c.rank-rank.ensures) ∙ ap (λ n. nat_eq n 0) (sym c.len-count.ensures) in
    bare_applied (rules_of c.args.rules) c.args.name.now c.args.declaration.now (scope_of c.args.table.now c.args.store.now.trees) c.apply_symbol.new.store.trees c.apply_symbol.result (same ∙ sym c.is_zero.ensures ∙ c.if-not-is_zero.false) c.apply_symbol.ensures.comes
