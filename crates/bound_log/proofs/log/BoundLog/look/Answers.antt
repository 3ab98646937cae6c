use Rattle.std.proofs.Common.{subst}
use Rattle.bound_log.specs.Told.{State}
use Rattle.bound_log.specs.Reporting.{Judges}
use Rattle.bound_log.proofs.Telling.{state_is}
use Rattle.bound_log.proofs.Breaking.{judged}
use Rattle.bound_log.proofs.log.BoundLog.look.Goals as goal

pub returns-clause-judges : goal.returns-clause-judges
returns-clause-judges c =
    let s = c.self.inside in
    let old : State = record { bounds = s.bounds; said = s.said.items; log = s.log.items } in
    subst (λ (o : State). Judges o c.report_of.result) c.self.view_is
    (judged c.conflicts_are_valid.ensures old c.in_ok-finding.finding c.report_of.result (state_is s.bounds s.said.items s.log.items s.starts.items c.facts.ensures c.self.invariant.0) c.in_ok-finding.ensures.judges
    c.report_of.ensures)
