use Rattle.std.proofs.Common.{subst, refl, ◌∙◌}
use Rattle.std.proofs.lemmas.Result.{err_from_is_err_and}
use Rattle.scope_stack.specs.Judged.{IsAsking}
use Rattle.scope_stack.proofs.SortSteps.{nothing_left}
use Rattle.scope_stack.proofs.TermSteps.{asking_first, asking_next, asking_last, asking_cause}
use Rattle.scope_stack.proofs.term.judge_terms.Goals as goal

pub loop-first-init : goal.loop-first-init
loop-first-init c = rw c.new-asked.ensures (asking_first c.args.table.now c.args.terms.now.trees c.args.texts.now (λ v h. h), refl)

pub returns-in_err-question-clause-causes : goal.returns-in_err-question-clause-causes
returns-in_err-question-clause-causes c =
    let p = err_from_is_err_and c.from_residual.result c.from_residual.ensures.1 in
    rw (p.1, p.2)
    (asking_cause c.args.table.now c.args.terms.now.trees c.args.texts.now c.loop-first.asked c.in-Some.first.now c.in-Some.tail.now c.loop-first.table c.loop-first.terms.trees _
    (subst (λ xs. IsAsking c.args.table.now c.args.terms.now.trees c.args.texts.now c.loop-first.asked xs c.loop-first.table c.loop-first.terms.trees) c.in-Some.ensures.cases.0 c.loop-first.invariant.0)
    c.in_err-question.ensures.causes)

pub loop-first-preserved : goal.loop-first-preserved
loop-first-preserved c =
    rw c.in_ok-push.ensures.ok (
      asking_next c.args.table.now c.args.terms.now.trees c.args.texts.now c.loop-first.asked c.in-Some.first.now c.in-Some.tail.now c.loop-first.table c.judge_question.new.table c.loop-first.terms.trees
          c.judge_question.new.terms.trees c.in_ok-question.question
          (subst (λ xs. IsAsking c.args.table.now c.args.terms.now.trees c.args.texts.now c.loop-first.asked xs c.loop-first.table c.loop-first.terms.trees) c.in-Some.ensures.cases.0 c.loop-first.invariant.0)
          c.in_ok-question.ensures.gives c.in_ok-question.ensures.place c.in_ok-question.ensures.gained c.in_ok-question.ensures.longer,
      c.in_ok-question.ensures.limit ∙ c.loop-first.invariant.1,
    )

pub returns-clause-gives : goal.returns-clause-gives
returns-clause-gives c =
    asking_last c.args.table.now c.args.terms.now.trees c.args.texts.now c.loop-first.asked c.loop-first.table c.loop-first.terms.trees
    (subst (λ xs. IsAsking c.args.table.now c.args.terms.now.trees c.args.texts.now c.loop-first.asked xs c.loop-first.table c.loop-first.terms.trees)
    (nothing_left c.loop-first.rest.now c.in_default.ensures.cases) c.loop-first.invariant.0)
