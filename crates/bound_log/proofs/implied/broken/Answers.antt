use Rattle.std.proofs.Common.{subst}
use Rattle.bound_log.specs.Reporting.{Judges}
use Rattle.bound_log.proofs.Implying.{if_some}
use Rattle.bound_log.proofs.implied.broken.Goals as goal

pub returns-clause-clause : goal.returns-clause-clause
returns-clause-clause c = if_some c.clause_of.result (λ d e. subst (Judges c.args.bounds.now) e c.in_ok-report.ensures.judges) c.clause_of.ensures
