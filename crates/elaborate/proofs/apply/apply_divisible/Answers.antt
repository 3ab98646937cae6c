use Rattle.std.proofs.Common.{sym, subst, ◌∙◌}
use Rattle.smt_meaning.specs.declared.refusals.Refusal.TheVariants.{ArgumentCount, SortsDiffer}
use Rattle.elaborate.specs.Judged.{scope_of, rules_of}
use Rattle.elaborate.specs.Values.{IsErrorOf}
use Rattle.elaborate.proofs.Divisible.{divisible_count, divisible_sorts, divisible_result}
use Rattle.elaborate.proofs.apply.apply_divisible.Goals as goal

pub returns-then-arguments-ne1-clause-comes : goal.returns-then-arguments-ne1-clause-comes
returns-then-arguments-ne1-clause-comes c =
    divisible_count (rules_of c.args.rules) c.args.number c.args.arguments.now (scope_of c.args.table.now c.args.store.now.trees) c.args.store.now.trees c.wrong_count.result c.if-arguments-ne1.true
    (subst (λ n. IsErrorOf (ArgumentCount n) c.wrong_count.result) c.as_slice.ensures c.wrong_count.ensures)

pub returns-then-not-same_sort-clause-comes : goal.returns-then-not-same_sort-clause-comes
returns-then-not-same_sort-clause-comes c =
    divisible_sorts (rules_of c.args.rules) c.args.number c.args.arguments.now _ (scope_of c.args.table.now c.args.store.now.trees) c.args.store.now.trees c.wrong_sorts.result c.if-arguments-ne1.false (sym c.same_sort.ensures ∙ c.if-not-same_sort.true)
    (subst (λ n. IsErrorOf (SortsDiffer n) c.wrong_sorts.result) c.as_slice-then-not-same_sort.ensures c.wrong_sorts.ensures)

pub returns-clause-comes : goal.returns-clause-comes
returns-clause-comes c =
    divisible_result (rules_of c.args.rules) c.args.number c.args.arguments.now _ (scope_of c.args.table.now c.args.store.now.trees) c.divisible_by.new.store.trees c.divisible_by.result c.requires.divisor c.if-arguments-ne1.false (sym c.same_sort.ensures ∙ c.if-not-same_sort.false)
    c.divisible_by.ensures.ok c.divisible_by.ensures.memory
