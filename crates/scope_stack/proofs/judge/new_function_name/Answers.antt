use Rattle.scope_stack.specs.Judged.{name_refusal}
use Rattle.scope_stack.proofs.SortSteps.{new_function_gives, new_function_refused, error_cause}
use Rattle.scope_stack.proofs.judge.new_function_name.Goals as goal

pub returns-in-Ok : goal.returns-in-Ok
returns-in-Ok c = record {
  gives = new_function_gives c.args.name.now c.args.table.now c.in-Ok.ensures.ok;
  new = c.in-Ok.ensures.ok.undeclared;
  causes = tt;
}

pub returns-in-Err : goal.returns-in-Err
returns-in-Err c = record {
  gives = tt;
  new = tt;
  causes = λ ts.
      error_cause _ (name_refusal c.in-Err.error c.args.name.now) c.name_error.result (new_function_refused c.in-Err.error c.args.name.now c.args.table.now ts c.in-Err.ensures.err) c.name_error.ensures;
}
