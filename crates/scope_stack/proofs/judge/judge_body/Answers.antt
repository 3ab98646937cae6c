use Rattle.std.proofs.Common.{sym, ◌∙◌}
use Rattle.elaborate.specs.Judged.{variables_of, bodied_of}
use Rattle.scope_stack.proofs.ParameterSteps.{body_cause, differs_cause}
use Rattle.scope_stack.proofs.TermSteps.{same_cause}
use Rattle.scope_stack.proofs.judge.judge_body.Goals as goal

pub returns-else-is_same-clause-causes : goal.returns-else-is_same-clause-causes
returns-else-is_same-clause-causes c =
    differs_cause c.args.name.now (variables_of c.args.parameters.now) c.args.term.now c.args.sort (bodied_of c.in-Ok.judged) c.args.table.now c.differs.result c.in-Ok.ensures.ok
    (sym c.is_same.ensures ∙ c.if-is_same.false) c.differs.ensures

pub returns-in-Err-clause-causes : goal.returns-in-Err-clause-causes
returns-in-Err-clause-causes c =
    body_cause c.args.name.now (variables_of c.args.parameters.now) c.args.term.now c.args.sort c.args.table.now c.judge_error.result
    (λ ts. same_cause _ c.in-Err.error c.judge_error.result c.judge_error.ensures (c.in-Err.ensures.refused ts))
