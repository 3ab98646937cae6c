use Rattle.std.proofs.Common.{◌≡◌, ◌≤◌, length, arith, subst}
use Rattle.bound_log.specs.Told.{State, IsState, column_sums}
use Rattle.bound_log.specs.Columns.{KeepsColumns}
use Rattle.bound_log.specs.Pivots.{AddsPivots}
use Rattle.bound_log.proofs.Telling.{core_kept, state_is}
use Rattle.bound_log.proofs.Breaking.{judged}
use Rattle.bound_log.proofs.Resting.{resting_run}
use Rattle.bound_log.proofs.Columns.{columns_by_bounds}
use Rattle.bound_log.proofs.Pivots.{adds_pivots}
use Rattle.bound_log.proofs.KeptVariables.{sums_by_bounds}
use Rattle.bound_log.proofs.log.BoundLog.check.Goals as goal

pub returns-clause-judges : goal.returns-clause-judges
returns-clause-judges c =
    let s = c.self.inside in
    let b = c.check-finding.new.self in
    let as_many : length s.bounds.columns ≤ length b.columns = omega (arith, c.check-finding.ensures.search.run.bounds.count) in
    let core = core_kept s.bounds b s.said.items s.log.items s.starts.items c.self.invariant.0 as_many c.check-finding.ensures.told in
    let new : State = record { bounds = b; said = s.said.items; log = s.log.items } in
    judged c.conflicts_are_valid.ensures new c.check-finding.result.finding c.report_of.result (state_is b s.said.items s.log.items s.starts.items c.facts-2.ensures core)
    c.check-finding.ensures.judges c.report_of.ensures

pub invariant_of-self : goal.invariant_of-self
invariant_of-self c =
    let s = c.self.inside in
    let b = c.check-finding.new.self in
    let checked = c.check-finding.ensures in
    let as_many : length s.bounds.columns ≤ length b.columns = omega (arith, checked.search.run.bounds.count) in
    let core = core_kept s.bounds b s.said.items s.log.items s.starts.items c.self.invariant.0 as_many checked.told in
    let new : State = record { bounds = b; said = s.said.items; log = s.log.items } in
    (core, resting_run s.bounds new (state_is b s.said.items s.log.items s.starts.items c.facts-2.ensures core) c.origins-2.ensures checked.search.rests checked.search.run.bounds.count c.self.invariant.1)

pub returns-clause-columns : goal.returns-clause-columns
returns-clause-columns c =
    let s = c.self.inside in
    let old : State = record { bounds = s.bounds; said = s.said.items; log = s.log.items } in
    let new : State = record { bounds = c.check-finding.new.self; said = s.said.items; log = s.log.items } in
    subst (λ (o : State). KeepsColumns o new) c.self.view_is (columns_by_bounds old new c.check-finding.ensures.search.run.bounds)

pub returns-clause-sums : goal.returns-clause-sums
returns-clause-sums c =
    let s = c.self.inside in
    let old : State = record { bounds = s.bounds; said = s.said.items; log = s.log.items } in
    let new : State = record { bounds = c.check-finding.new.self; said = s.said.items; log = s.log.items } in
    subst (λ (o : State). column_sums new ≡ column_sums o) c.self.view_is (sums_by_bounds old new c.check-finding.ensures.search.run.bounds)

pub returns-clause-pivots : goal.returns-clause-pivots
returns-clause-pivots c =
    let s = c.self.inside in
    let old : State = record { bounds = s.bounds; said = s.said.items; log = s.log.items } in
    let kept = c.args.kept.now in
    let checked = c.check-finding in
    let new : State = record { bounds = checked.new.self; said = s.said.items; log = s.log.items } in
    let state : IsState old = state_is s.bounds s.said.items s.log.items s.starts.items c.facts.ensures c.self.invariant.0 in
    subst (λ (o : State). AddsPivots o new kept.keep checked.result.pivots kept.lines.items checked.new.kept.lines.items) c.self.view_is
    (adds_pivots old new kept.keep checked.result.pivots kept.lines.items checked.new.kept.lines.items state c.origins.ensures c.self.invariant.1 checked.ensures.search.lines)
