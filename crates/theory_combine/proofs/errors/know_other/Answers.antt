use Rattle.bound_log.proofs.Taking.{err_is}
use Rattle.theory_combine.specs.declared.errors.BoundError.TheVariants.{Memory}
use Rattle.theory_combine.specs.Errors.{IsErrorAt}
use Rattle.theory_combine.proofs.errors.know_other.Goals as goal

pub returns-in_err-know_other-clause-err : goal.returns-in_err-know_other-clause-err
returns-in_err-know_other-clause-err c = λ a. err_is c.from_residual.result Memory (IsErrorAt c.args.bounds.now c.know_other.new.self a) c.from_residual.ensures.1 (λ table knows. tt)
