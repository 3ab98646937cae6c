use Rattle.std.proofs.Common.{◌≡◌, refl, sym, ap, ◌∙◌, subst, map, Some}
use Rattle.std.proofs.lemmas.Result.{err_from_is_err_and}
use Rattle.elaborate.specs.Judged.{variables_of}
use Rattle.smt_meaning.specs.Sorts.{declare}
use Rattle.smt_meaning.specs.StackCommand.{function_declaration, sorts_of_variables}
use Rattle.scope_stack.specs.Judged.{Adds, Causes, IsBody, body_of_sort, sort_of}
use Rattle.scope_stack.proofs.DeclareSteps.{added_on}
use Rattle.scope_stack.proofs.ParameterSteps.{sorts_same, definition_adds, definition_name_cause, definition_parameters_cause, definition_sort_cause, definition_body_cause, definition_add_cause}
use Rattle.scope_stack.proofs.declare.define_with.Goals as goal

pub returns-in_err-new_function_name : goal.returns-in_err-new_function_name
returns-in_err-new_function_name c =
    let p = err_from_is_err_and c.from_residual.result c.from_residual.ensures.1 in
    rw (p.1, p.2)
    (record { causes = definition_name_cause c.args.name.now c.args.parameters.now c.args.sort.now c.args.body.now c.args.table.now _ c.in_err-new_function_name.ensures.causes; same = refl })

pub returns-in_err-parameters : goal.returns-in_err-parameters
returns-in_err-parameters c =
    let p = err_from_is_err_and c.from_residual-in_err-parameters.result c.from_residual-in_err-parameters.ensures.1 in
    rw (p.1, p.2)
    (record {
      causes = definition_parameters_cause c.args.name.now c.args.parameters.now c.args.sort.now c.args.body.now c.args.table.now _ c.in_ok-new_function_name.ensures.gives c.in_err-parameters.ensures.causes;
      same = refl;
    })

pub returns-in_err-result : goal.returns-in_err-result
returns-in_err-result c =
    let p = err_from_is_err_and c.from_residual-in_err-result.result c.from_residual-in_err-result.ensures.1 in
    rw (p.1, p.2)
    (record {
      causes = definition_sort_cause c.args.name.now c.args.parameters.now c.args.sort.now c.args.body.now c.args.table.now (variables_of c.in_ok-parameters.parameters.items) _
          c.in_ok-new_function_name.ensures.gives c.in_ok-parameters.ensures.gives c.in_err-result.ensures.causes;
      same = refl;
    })

pub returns-in_err-judged : goal.returns-in_err-judged
returns-in_err-judged c =
    let p = err_from_is_err_and c.from_residual-in_err-judged.result c.from_residual-in_err-judged.ensures.1 in
    rw (p.1, p.2)
    (record {
      causes = definition_body_cause c.args.name.now c.args.parameters.now c.args.sort.now c.args.body.now c.args.table.now (variables_of c.in_ok-parameters.parameters.items) c.in_ok-result.result _
          c.in_ok-new_function_name.ensures.gives c.in_ok-parameters.ensures.gives c.in_ok-result.ensures.gives
          (subst (λ qs. Causes (body_of_sort c.args.name.now (variables_of qs) c.args.body.now c.in_ok-result.result) c.args.table.now c.in_err-judged.field-0.0) c.as_slice.ensures.value c.in_err-judged.ensures.causes);
      same = refl;
    })

pub returns-in_err-sorts_of : goal.returns-in_err-sorts_of
returns-in_err-sorts_of c =
    let p = err_from_is_err_and c.from_residual-in_err-sorts_of.result c.from_residual-in_err-sorts_of.ensures.1 in
    rw (p.1, p.2) (record { causes = λ ts. tt; same = refl })

pub returns-in_err-add_definition : goal.returns-in_err-add_definition
returns-in_err-add_definition c =
    let p = err_from_is_err_and c.from_residual-in_err-add_definition.result c.from_residual-in_err-add_definition.ensures.1 in
    let arguments : c.from_vec-arguments.result ≡ sorts_of_variables (variables_of c.in_ok-parameters.parameters.items) =
    c.from_vec-arguments.ensures ∙ c.in_ok-sorts_of.ensures ∙ ap (λ qs. map sort_of qs) c.as_slice-2.ensures.value ∙ sym (sorts_same c.in_ok-parameters.parameters.items) in
    rw (p.1, p.2)
    (record {
      causes = definition_add_cause c.args.name.now c.args.parameters.now c.args.sort.now c.args.body.now c.args.table.now (variables_of c.in_ok-parameters.parameters.items) c.in_ok-result.result
          c.in_ok-judged.judged.body _ c.in_ok-new_function_name.ensures.gives c.in_ok-parameters.ensures.gives c.in_ok-result.ensures.gives
          (subst (λ qs. IsBody (variables_of qs) c.args.body.now c.in_ok-result.result c.args.table.now c.in_ok-judged.judged.body) c.as_slice.ensures.value c.in_ok-judged.ensures.gives)
          (subst (λ rs. Causes (declare (λ id. function_declaration id c.args.name.now rs c.in_ok-result.result (Some c.in_ok-judged.judged.body))) c.args.table.now c.in_err-add_definition.field-0.0) arguments
          c.in_err-add_definition.ensures.causes);
      same = c.in_err-add_definition.ensures.err;
    })

pub returns : goal.returns
returns c =
    let arguments : c.from_vec-arguments.result ≡ sorts_of_variables (variables_of c.in_ok-parameters.parameters.items) =
    c.from_vec-arguments.ensures ∙ c.in_ok-sorts_of.ensures ∙ ap (λ qs. map sort_of qs) c.as_slice-2.ensures.value ∙ sym (sorts_same c.in_ok-parameters.parameters.items) in
    added_on c.args.global c.args.table.now c.add_definition.new.table c.in_ok-add_definition.ensures.added
    (λ v k. definition_adds c.args.name.now c.args.parameters.now c.args.sort.now c.args.body.now c.args.table.now v (variables_of c.in_ok-parameters.parameters.items)
    c.in_ok-result.result c.in_ok-judged.judged.body c.in_ok-new_function_name.ensures.gives c.in_ok-parameters.ensures.gives c.in_ok-result.ensures.gives
    (subst (λ qs. IsBody (variables_of qs) c.args.body.now c.in_ok-result.result c.args.table.now c.in_ok-judged.judged.body) c.as_slice.ensures.value c.in_ok-judged.ensures.gives)
    (subst (λ rs. Adds (declare (λ id. function_declaration id c.args.name.now rs c.in_ok-result.result (Some c.in_ok-judged.judged.body))) c.args.table.now tt v) arguments k))
