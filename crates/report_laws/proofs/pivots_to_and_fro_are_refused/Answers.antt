use Rattle.report_laws.proofs.Sum as Sum
use Rattle.report_laws.proofs.ToAndFro as ToAndFro
use Rattle.report_laws.proofs.pivots_to_and_fro_are_refused.Goals as goal

pub returns-clause-each : goal.returns-clause-each
returns-clause-each c = Sum.each_is_a_pivot

pub returns-clause-neighbours : goal.returns-clause-neighbours
returns-clause-neighbours c = ToAndFro.to_and_fro_is_refused
