use Rattle.std.proofs.Common.{◌≡◌, ◌∙◌, ◌&&◌, sym, ap, length, nat_eq, true, false, map, List}
use Rattle.std.specs.Prelude.{nat_le}
use Rattle.smt_meaning.specs.declared.values.Sort.{Sort}
use Rattle.smt_meaning.specs.declared.declarations.Rank.{Rank}
use Rattle.smt_meaning.specs.Signature.{sorts_eq}
use Rattle.elaborate.specs.Values.{sort_of}
use Rattle.elaborate.specs.Judged.{scope_of, rules_of}
use Rattle.elaborate.proofs.Applied.{function_count, function_sorts, function_applied}
use Rattle.elaborate.proofs.apply.apply_function.Goals as goal

pub returns-then-not-is_count-clause-comes : goal.returns-then-not-is_count-clause-comes
returns-then-not-is_count-clause-comes c =
    let same : c.as_slice-sorts.result.now ≡ c.args.declaration.now.rank.arguments = c.as_slice-sorts.ensures ∙ ap (λ (q : Rank). q.arguments) c.rank-rank.ensures in
    let test : (nat_eq (length c.args.arguments.now) (length c.args.declaration.now.rank.arguments) && nat_le 1 (length c.args.arguments.now)) ≡ false =
    ap (λ (ss : List Sort). nat_eq (length c.args.arguments.now) (length ss) && nat_le 1 (length c.args.arguments.now)) (sym same) ∙ sym c.is_count.ensures ∙ c.if-not-is_count.true in
    function_count (rules_of c.args.rules) c.args.name.now c.args.declaration.now c.args.arguments.now (scope_of c.args.table.now c.args.store.now.trees) c.args.store.now.trees c.wrong_count.result test c.wrong_count.ensures

pub returns-then-not-have_sorts-clause-comes : goal.returns-then-not-have_sorts-clause-comes
returns-then-not-have_sorts-clause-comes c =
    let same : c.as_slice-sorts.result.now ≡ c.args.declaration.now.rank.arguments = c.as_slice-sorts.ensures ∙ ap (λ (q : Rank). q.arguments) c.rank-rank.ensures in
    let test : (nat_eq (length c.args.arguments.now) (length c.args.declaration.now.rank.arguments) && nat_le 1 (length c.args.arguments.now)) ≡ true =
    ap (λ (ss : List Sort). nat_eq (length c.args.arguments.now) (length ss) && nat_le 1 (length c.args.arguments.now)) (sym same) ∙ sym c.is_count.ensures ∙ c.if-not-is_count.false in
    function_sorts (rules_of c.args.rules) c.args.name.now c.args.declaration.now c.args.arguments.now (scope_of c.args.table.now c.args.store.now.trees) c.args.store.now.trees c.wrong_sorts.result test
    (ap (λ (ss : List Sort). sorts_eq (map sort_of c.args.arguments.now) ss) (sym same) ∙ sym c.have_sorts.ensures ∙ c.if-not-have_sorts.true) c.wrong_sorts.ensures

pub returns-clause-comes : goal.returns-clause-comes
returns-clause-comes c =
    let same : c.as_slice-sorts.result.now ≡ c.args.declaration.now.rank.arguments = c.as_slice-sorts.ensures ∙ ap (λ (q : Rank). q.arguments) c.rank-rank.ensures in
    let test : (nat_eq (length c.args.arguments.now) (length c.args.declaration.now.rank.arguments) && nat_le 1 (length c.args.arguments.now)) ≡ true =
    ap (λ (ss : List Sort). nat_eq (length c.args.arguments.now) (length ss) && nat_le 1 (length c.args.arguments.now)) (sym same) ∙ sym c.is_count.ensures ∙ c.if-not-is_count.false in
    function_applied (rules_of c.args.rules) c.args.name.now c.args.declaration.now c.args.arguments.now (scope_of c.args.table.now c.args.store.now.trees) c.apply_symbol.new.store.trees c.apply_symbol.result test
    (ap (λ (ss : List Sort). sorts_eq (map sort_of c.args.arguments.now) ss) (sym same) ∙ sym c.have_sorts.ensures ∙ c.if-not-have_sorts.false) c.apply_symbol.ensures.comes
