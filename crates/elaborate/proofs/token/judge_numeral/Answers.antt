use Rattle.std.proofs.Common.{◌≡◌, ap, subst, ◌∙◌, true}
use Rattle.std.specs.Prelude.{pos}
use Rattle.smt_meaning.specs.declared.terms.Head.TheVariants.{Numeral}
use Rattle.smt_meaning.specs.Sorts.{decimal, is_small}
use Rattle.elaborate.specs.Judged.{scope_of}
use Rattle.elaborate.proofs.Names.{numeral_large, numeral_result}
use Rattle.elaborate.proofs.token.judge_numeral.Goals as goal

pub returns-in-None-clause-comes : goal.returns-in-None-clause-comes
returns-in-None-clause-comes c = numeral_large (decimal c.args.digits.now) (scope_of c.args.table.now c.args.store.now.trees) c.in-None.ensures.none

pub returns-in-Some-clause-comes : goal.returns-in-Some-clause-comes
returns-in-Some-clause-comes c =
    numeral_result (decimal c.args.digits.now) c.numeral.result (scope_of c.args.table.now c.args.store.now.trees) c.stored.new.store.trees c.stored.result (c.numeral.ensures ∙ ap (λ n. Numeral (pos n)) c.in-Some.ensures.some) (subst (λ n. is_small n ≡ true) c.in-Some.ensures.some c.in-Some.ensures.small) c.stored.ensures.ok c.stored.ensures.memory
