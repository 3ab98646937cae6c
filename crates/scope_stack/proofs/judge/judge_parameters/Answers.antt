use Rattle.std.proofs.Common.{◌∙◌, sym, ap, subst}
use Rattle.std.proofs.lemmas.Result.{err_from_is_err_and}
use Rattle.term_store.specs.Newest.{hashes_of}
use Rattle.scope_stack.specs.Judged.{Causes, Continues, IsParameter, one_parameter, parameter_name}
use Rattle.scope_stack.proofs.SortSteps.{nothing_left}
use Rattle.scope_stack.proofs.ParameterSteps.{continues_first, continues_next, continues_last, continues_cause}
use Rattle.scope_stack.proofs.judge.judge_parameters.Goals as goal

pub loop-first-init : goal.loop-first-init
loop-first-init c = record {
  continues = subst (λ ps. Continues c.args.table.now c.args.parameters.now ps c.args.parameters.now) (sym c.new-judged.ensures.items) (continues_first c.args.parameters.now c.args.table.now);
  filed = c.new-filed.ensures ∙ ap (hashes_of parameter_name) (sym c.new-judged.ensures.items);
}

pub returns-in_err-parameter-clause-causes : goal.returns-in_err-parameter-clause-causes
returns-in_err-parameter-clause-causes c =
    let p = err_from_is_err_and c.from_residual.result c.from_residual.ensures.1 in
    rw (p.1, p.2)
    (continues_cause c.args.parameters.now c.in-Some.tail.now c.in-Some.first.now c.args.table.now c.loop-first.judged.items _
    (subst (λ xs. Continues c.args.table.now c.args.parameters.now c.loop-first.judged.items xs) c.in-Some.ensures.cases.0 c.loop-first.invariant.continues)
    (subst (λ qs. Causes (one_parameter qs c.in-Some.first.now) c.args.table.now c.in_err-parameter.field-0.0) c.as_slice.ensures.value c.in_err-parameter.ensures.causes))

pub loop-first-preserved : goal.loop-first-preserved
loop-first-preserved c = record {
  continues =
      subst (λ ps. Continues c.args.table.now c.args.parameters.now ps c.in-Some.tail.now) (sym c.in_ok-append.ensures.items)
      (continues_next c.args.parameters.now c.in-Some.tail.now c.in-Some.first.now c.args.table.now c.loop-first.judged.items c.in_ok-parameter.parameter
      (subst (λ xs. Continues c.args.table.now c.args.parameters.now c.loop-first.judged.items xs) c.in-Some.ensures.cases.0 c.loop-first.invariant.continues)
      (subst (λ qs. IsParameter qs c.in-Some.first.now c.args.table.now c.in_ok-parameter.parameter) c.as_slice.ensures.value c.in_ok-parameter.ensures.gives));
  filed = c.in_ok-append.ensures.filed;
}

pub returns-clause-gives : goal.returns-clause-gives
returns-clause-gives c =
    continues_last c.args.parameters.now c.args.table.now c.loop-first.judged.items
    (subst (λ xs. Continues c.args.table.now c.args.parameters.now c.loop-first.judged.items xs) (nothing_left c.loop-first.rest.now c.in_default.ensures.cases) c.loop-first.invariant.continues)
