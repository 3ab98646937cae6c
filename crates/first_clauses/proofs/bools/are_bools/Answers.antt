use Rattle.std.proofs.Common.{◌≡◌, true, false, rules}
use Rattle.std.proofs.lemmas.List.Elements.{All-cons, All-head, All-tail}
use Rattle.smt_meaning.specs.declared.values.Sort.TheVariants.{Bool as Truths}
use Rattle.order_clauses.specs.Clauses.{sort_at}
use Rattle.first_clauses.proofs.bools.are_bools.Goals as goal

pub returns-then-not-is_bool-clause-no : goal.returns-then-not-is_bool-clause-no
returns-then-not-is_bool-clause-no c = λ e all.
    let none : c.is_bool.result ≡ false = search rules in
    c.is_bool.ensures.no none (All-head (λ i. sort_at c.args.sorts.now i ≡ Truths) c.args.place c.args.arguments.now all)

pub returns-clause-yes : goal.returns-clause-yes
returns-clause-yes c = λ e.
    let yes : c.is_bool.result ≡ true = search rules in
    All-cons (λ i. sort_at c.args.sorts.now i ≡ Truths) c.args.place c.args.arguments.now (c.is_bool.ensures.yes yes) (c.all_are_bools.ensures.yes e)

pub returns-clause-no : goal.returns-clause-no
returns-clause-no c = λ e all. c.all_are_bools.ensures.no e (All-tail (λ i. sort_at c.args.sorts.now i ≡ Truths) c.args.place c.args.arguments.now all)
