use Rattle.std.proofs.Common.{subst}
use Rattle.std.specs.Prelude.{IfSome}
use Rattle.sum_bounds.specs.Bounds.{sums}
use Rattle.sum_bounds.specs.Wholes.{IsWholeConflict}
use Rattle.bound_log.specs.Told.{State}
use Rattle.bound_log.specs.Reporting.{IsClause}
use Rattle.bound_log.proofs.Telling.{state_is}
use Rattle.bound_log.proofs.Breaking.{broken_by_wholes}
use Rattle.bound_log.proofs.log.BoundLog.whole_conflict.Goals as goal

pub returns-in-Some : goal.returns-in-Some
returns-in-Some c =
    let s = c.self.inside in
    let now : State = record { bounds = s.bounds; said = s.said.items; log = s.log.items } in
    let made = c.lemma_with.ensures in
    subst (λ (t : State). IsClause t c.lemma_with.result) c.self.view_is
    (broken_by_wholes c.whole_conflicts_are_valid.ensures now c.in-Some.clause.items c.lemma_with.result (state_is s.bounds s.said.items s.log.items s.starts.items c.facts.ensures c.self.invariant.0)
    (subst (λ o. IfSome o (λ ls. IsWholeConflict (sums s.bounds) s.bounds.told ls.items)) c.in-Some.is c.in_ok-clause.ensures) (record { literals = made.literals; level = made.level; conflict = made.conflict }))
