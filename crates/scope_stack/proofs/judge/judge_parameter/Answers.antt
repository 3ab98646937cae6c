use Rattle.std.proofs.Common.{sym, ◌∙◌, ◌≡◌}
use Rattle.std.proofs.lemmas.Result.{err_from_is_err_and}
use Rattle.smt_meaning.specs.declared.refusals.Refusal.TheVariants.{AlreadyDeclared}
use Rattle.smt_meaning.specs.Signature.{is_one_of}
use Rattle.scope_stack.specs.Judged.{IsError, names_before}
use Rattle.scope_stack.proofs.ParameterSteps.{twice_cause, sort_cause, apart_gives}
use Rattle.scope_stack.proofs.judge.judge_parameter.Goals as goal

pub returns-then-is_before-clause-causes : goal.returns-then-is_before-clause-causes
returns-then-is_before-clause-causes c =
    let test : c.is_before.result ≡ is_one_of c.args.parameter.now.name (names_before c.args.before.now) = rw c.as_slice-name.ensures at c.is_before.ensures in
    let error : IsError (AlreadyDeclared c.args.parameter.now.name) c.bound_twice.result = rw c.as_slice-name.ensures at c.bound_twice.ensures in
    twice_cause c.args.before.now c.args.parameter.now c.args.table.now c.bound_twice.result (sym test ∙ c.if-is_before.true) error

pub returns-in_err-sort-clause-causes : goal.returns-in_err-sort-clause-causes
returns-in_err-sort-clause-causes c =
    let p = err_from_is_err_and c.from_residual.result c.from_residual.ensures.1 in
    let test : c.is_before.result ≡ is_one_of c.args.parameter.now.name (names_before c.args.before.now) = rw c.as_slice-name.ensures at c.is_before.ensures in
    rw (p.1, p.2) (sort_cause c.args.before.now c.args.parameter.now c.args.table.now _ (sym test ∙ c.if-is_before.false) c.in_err-sort.ensures.causes)

pub returns-clause-gives : goal.returns-clause-gives
returns-clause-gives c =
    let test : c.is_before.result ≡ is_one_of c.args.parameter.now.name (names_before c.args.before.now) = rw c.as_slice-name.ensures at c.is_before.ensures in
    record {
      name = c.in_ok-name.ensures ∙ c.as_slice-name.ensures;
      apart = apart_gives c.args.before.now c.args.parameter.now.name c.args.table.now (sym test ∙ c.if-is_before.false);
      sort = c.in_ok-sort.ensures.gives;
    }
