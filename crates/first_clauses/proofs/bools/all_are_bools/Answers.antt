use Rattle.std.proofs.Common.{◌≡◌, true, false, subst, rules}
use Rattle.std.proofs.lemmas.List.{take_all}
use Rattle.std.proofs.lemmas.List.Elements.{All-more}
use Rattle.smt_meaning.specs.declared.values.Sort.TheVariants.{Bool as Truths}
use Rattle.order_clauses.specs.Clauses.{sort_at}
use Rattle.first_clauses.specs.CheckClausesFirst.{AreBools}
use Rattle.first_clauses.proofs.bools.all_are_bools.Goals as goal

pub loop-place-preserved : goal.loop-place-preserved
loop-place-preserved c =
    let yes : c.is_bool.result ≡ true = search rules in
    All-more (λ i. sort_at c.args.sorts.now i ≡ Truths) c.args.places.now c.loop-place.place-index 0 c.loop-place-test.true c.loop-place.invariant (c.is_bool.ensures.yes yes)

pub returns-then-not-is_bool-clause-no : goal.returns-then-not-is_bool-clause-no
returns-then-not-is_bool-clause-no c = λ e all.
    let none : c.is_bool.result ≡ false = search rules in
    c.is_bool.ensures.no none (all c.loop-place.place-index 0 c.loop-place-test.true)

pub returns-clause-yes : goal.returns-clause-yes
returns-clause-yes c = λ e. subst (AreBools c.args.sorts.now) (take_all c.loop-place.place-index c.args.places.now c.loop-place-test.false) c.loop-place.invariant
