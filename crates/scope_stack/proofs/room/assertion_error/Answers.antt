use Rattle.std.proofs.Common.{[], subst}
use Rattle.smt_meaning.specs.Sexp.{sexp}
use Rattle.smt_meaning.specs.Sorts.{judge}
use Rattle.smt_meaning.specs.StackCommand.{in_assert}
use Rattle.scope_stack.specs.declared.answers.StackError.TheVariants.{Refused}
use Rattle.elaborate.specs.Judged.{IsCauseOf}
use Rattle.scope_stack.specs.Judged.{scope_by}
use Rattle.scope_stack.proofs.TermSteps.{assert_cause}
use Rattle.scope_stack.proofs.room.assertion_error.Goals as goal

pub returns-in-Refused-clause-causes : goal.returns-in-Refused-clause-causes
returns-in-Refused-clause-causes c =
    assert_cause c.args.term.now (scope_by c.args.table.now c.args.terms.now.trees) (Refused c.in-Refused.refusal)
    (subst (λ e. IsCauseOf e (judge in_assert [] (sexp c.args.term.now) (scope_by c.args.table.now c.args.terms.now.trees))) c.in-Refused.is c.requires.cause)
