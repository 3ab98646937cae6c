use Rattle.std.proofs.Common.{rules, ◌≡◌, ◌<◌, length, take, subst}
use Rattle.std.specs.Prelude.{slice_index_or}
use Rattle.bound_log.proofs.Telling.{core_undone}
use Rattle.bound_log.proofs.Resting.{resting_still, still_values}
use Rattle.bound_log.specs.Told.{State}
use Rattle.bound_log.specs.Growth.{KeepsVariables}
use Rattle.bound_log.proofs.KeptVariables.{kept_by_values}
use Rattle.bound_log.proofs.log.BoundLog.undo_to.Goals as goal

pub invariant_of-self : goal.invariant_of-self
invariant_of-self c =
    let s = c.self.inside in
    let log = c.truncate.new.self.items in
    let starts = c.truncate-then-count-len.new.self.items in
    let less : c.args.count < length s.starts.items = search rules in
    let at : c.start_of.result ≡ slice_index_or s.starts.items c.args.count 0 = search rules in
    let is : log ≡ take c.args.count s.log.items = search rules in
    let is_starts : starts ≡ take c.args.count s.starts.items = search rules in (
      core_undone s.bounds c.undo_to.new.self s.said.items s.log.items log s.starts.items starts c.args.count c.start_of.result c.self.invariant.0 less at c.undo_to.ensures.values.count
          c.undo_to.ensures.told is is_starts,
      resting_still s.bounds c.undo_to.new.self s.said.items (still_values s.bounds c.undo_to.new.self c.undo_to.ensures.table c.undo_to.ensures.values) c.self.invariant.1,
    )

pub returns-then-count-len-clause-variables : goal.returns-then-count-len-clause-variables
returns-then-count-len-clause-variables c =
    let s = c.self.inside in
    let old : State = record { bounds = s.bounds; said = s.said.items; log = s.log.items } in
    let new : State = record { bounds = c.undo_to.new.self; said = s.said.items; log = c.truncate.new.self.items } in
    subst (λ (o : State). KeepsVariables o new) c.self.view_is (kept_by_values old new c.undo_to.ensures.table c.undo_to.ensures.values)
