use Rattle.std.proofs.Common.{subst}
use Rattle.std.proofs.lemmas.Result.{err_from_is_err_and}
use Rattle.scope_stack.specs.Judged.{Resumes}
use Rattle.scope_stack.proofs.SortSteps.{resumes_first, resumes_next, resumes_last, resumes_cause, nothing_left}
use Rattle.scope_stack.proofs.judge.judge_sorts.Goals as goal

pub loop-first-init : goal.loop-first-init
loop-first-init c = rw c.new-judged.ensures (resumes_first c.args.sorts.now c.args.table.now)

pub returns-in_err-sort-clause-causes : goal.returns-in_err-sort-clause-causes
returns-in_err-sort-clause-causes c =
    let p = err_from_is_err_and c.from_residual.result c.from_residual.ensures.1 in
    rw (p.1, p.2)
    (resumes_cause c.args.sorts.now c.in-Some.tail.now c.in-Some.first.now c.args.table.now c.loop-first.judged _
    (subst (λ xs. Resumes c.args.table.now c.args.sorts.now c.loop-first.judged xs) c.in-Some.ensures.cases.0 c.loop-first.invariant) c.in_err-sort.ensures.causes)

pub loop-first-preserved : goal.loop-first-preserved
loop-first-preserved c =
    rw c.in_ok-push.ensures.ok
    (resumes_next c.args.sorts.now c.in-Some.tail.now c.in-Some.first.now c.args.table.now c.loop-first.judged c.in_ok-sort.sort
    (subst (λ xs. Resumes c.args.table.now c.args.sorts.now c.loop-first.judged xs) c.in-Some.ensures.cases.0 c.loop-first.invariant) c.in_ok-sort.ensures.gives)

pub returns-clause-gives : goal.returns-clause-gives
returns-clause-gives c =
    resumes_last c.args.sorts.now c.args.table.now c.loop-first.judged
    (subst (λ xs. Resumes c.args.table.now c.args.sorts.now c.loop-first.judged xs) (nothing_left c.loop-first.rest.now c.in_default.ensures.cases) c.loop-first.invariant)
