use Rattle.std.proofs.Common.{refl}
use Rattle.std.proofs.lemmas.Result.{err_from_is_err_and}
use Rattle.scope_stack.proofs.DeclareSteps.{added_on, function_adds, function_name_cause, function_arguments_cause, function_result_cause, function_add_cause}
use Rattle.scope_stack.proofs.declare.declare_function.Goals as goal

pub returns-in_err-new_function_name : goal.returns-in_err-new_function_name
returns-in_err-new_function_name c =
    let p = err_from_is_err_and c.from_residual.result c.from_residual.ensures.1 in
    rw (p.1, p.2) (record { causes = function_name_cause c.args.name.now c.args.arguments.now c.args.sort.now c.args.table.now _ c.in_err-new_function_name.ensures.causes; same = refl })

pub returns-in_err-arguments : goal.returns-in_err-arguments
returns-in_err-arguments c =
    let p = err_from_is_err_and c.from_residual-in_err-arguments.result c.from_residual-in_err-arguments.ensures.1 in
    rw (p.1, p.2)
    (record { causes = function_arguments_cause c.args.name.now c.args.arguments.now c.args.sort.now c.args.table.now _ c.in_ok-new_function_name.ensures.gives c.in_err-arguments.ensures.causes; same = refl })

pub returns-in_err-result : goal.returns-in_err-result
returns-in_err-result c =
    let p = err_from_is_err_and c.from_residual-in_err-result.result c.from_residual-in_err-result.ensures.1 in
    rw (p.1, p.2)
    (record {
      causes = function_result_cause c.args.name.now c.args.arguments.now c.args.sort.now c.args.table.now c.in_ok-arguments.arguments _ c.in_ok-new_function_name.ensures.gives c.in_ok-arguments.ensures.gives c.in_err-result.ensures.causes;
      same = refl;
    })

pub returns-in_err-add_function : goal.returns-in_err-add_function
returns-in_err-add_function c =
    let p = err_from_is_err_and c.from_residual-in_err-add_function.result c.from_residual-in_err-add_function.ensures.1 in
    rw (p.1, p.2)
    (record {
      causes = function_add_cause c.args.name.now c.args.arguments.now c.args.sort.now c.args.table.now c.in_ok-arguments.arguments c.in_ok-result.result _ c.in_ok-new_function_name.ensures.gives c.in_ok-arguments.ensures.gives
          c.in_ok-result.ensures.gives c.in_err-add_function.ensures.causes;
      same = c.in_err-add_function.ensures.err;
    })

pub returns : goal.returns
returns c =
    added_on c.args.global c.args.table.now c.add_function.new.table c.in_ok-add_function.ensures.added
    (λ v k. function_adds c.args.name.now c.args.arguments.now c.args.sort.now c.args.table.now v c.in_ok-arguments.arguments c.in_ok-result.result c.in_ok-new_function_name.ensures.gives
    c.in_ok-arguments.ensures.gives c.in_ok-result.ensures.gives k)
