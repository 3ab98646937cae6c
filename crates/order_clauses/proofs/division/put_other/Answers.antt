use Rattle.std.proofs.Common.{map, sym, subst}
use Rattle.std.proofs.lemmas.Result.{err_from_is_err_and}
use Rattle.pair_bounds.specs.Rows.{listed}
use Rattle.order_clauses.specs.Clauses.{limit_bound}
use Rattle.order_clauses.specs.Errors.{IsLimitCause}
use Rattle.order_clauses.proofs.division.put_other.Goals as goal

pub returns-in_err-second-in-Some-clause-cause : goal.returns-in_err-second-in-Some-clause-cause
returns-in_err-second-in-Some-clause-cause g c =
    let p = err_from_is_err_and c.from_residual.result c.from_residual.ensures.1 in
    rw (p.1, p.2)
    (subst (λ o. IsLimitCause g.trees c.args.atoms.now.atoms (listed o) (map (limit_bound g.trees) (listed o)) c.in_err-second-in-Some.field-0.0) (sym c.in-Some.is) c.in_err-second-in-Some.ensures.cause)
