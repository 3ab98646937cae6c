use Rattle.std.proofs.Common.{refl}
use Rattle.std.proofs.lemmas.Result.{err_from_is_err_and}
use Rattle.scope_stack.proofs.DeclareSteps.{added_on, sort_adds, sort_name_cause, sort_sort_cause, sort_add_cause}
use Rattle.scope_stack.proofs.declare.define_new_sort.Goals as goal

pub returns-in_err-new_sort_name-clause-err : goal.returns-in_err-new_sort_name-clause-err
returns-in_err-new_sort_name-clause-err c =
    let p = err_from_is_err_and c.from_residual.result c.from_residual.ensures.1 in
    rw (p.1, p.2) (record { causes = sort_name_cause c.args.name.now c.args.sort.now c.args.table.now _ c.in_err-new_sort_name.ensures.causes; same = refl })

pub returns-in_err-sort-clause-err : goal.returns-in_err-sort-clause-err
returns-in_err-sort-clause-err c =
    let p = err_from_is_err_and c.from_residual-in_err-sort.result c.from_residual-in_err-sort.ensures.1 in
    rw (p.1, p.2)
    (record { causes = sort_sort_cause c.args.name.now c.args.sort.now c.args.table.now _ c.in_ok-new_sort_name.ensures.gives c.in_err-sort.ensures.causes; same = refl })

pub returns-in_err-add_sort-clause-err : goal.returns-in_err-add_sort-clause-err
returns-in_err-add_sort-clause-err c =
    let p = err_from_is_err_and c.from_residual-in_err-add_sort.result c.from_residual-in_err-add_sort.ensures.1 in
    rw (p.1, p.2)
    (record {
      causes = sort_add_cause c.args.name.now c.args.sort.now c.args.table.now c.in_ok-sort.sort _ c.in_ok-new_sort_name.ensures.gives c.in_ok-sort.ensures.gives c.in_err-add_sort.ensures.causes;
      same = c.in_err-add_sort.ensures.err;
    })

pub returns-clause-adds : goal.returns-clause-adds
returns-clause-adds c =
    added_on c.args.global c.args.table.now c.add_sort.new.table c.in_ok-add_sort.ensures.added
    (λ v k. sort_adds c.args.name.now c.args.sort.now c.args.table.now v c.in_ok-sort.sort c.in_ok-new_sort_name.ensures.gives c.in_ok-sort.ensures.gives k)
