use Rattle.std.proofs.Common.{refl, subst}
use Rattle.smt_meaning.specs.Boxes.{term_at_most}
use Rattle.bound_log.specs.Told.{State}
use Rattle.bound_log.specs.Atoms.{KnowsTheSame}
use Rattle.bound_log.specs.Columns.{AddsColumns}
use Rattle.bound_log.proofs.Telling.{core_kept}
use Rattle.bound_log.proofs.Resting.{resting_still}
use Rattle.bound_log.proofs.Growing.{keeps_where_grown, fewer}
use Rattle.bound_log.proofs.Knowing.{knows_kept}
use Rattle.bound_log.proofs.Columns.{columns_leaf}
use Rattle.bound_log.specs.Growth.{GrowsVariables}
use Rattle.bound_log.proofs.KeptVariables.{grows}
use Rattle.bound_log.proofs.log.BoundLog.add_leaf.Goals as goal

pub invariant_of-self : goal.invariant_of-self
invariant_of-self c =
    let s = c.self.inside in
    let b = c.add_leaf.new.bounds in
    let grown = c.add_leaf.ensures.grown in (
      core_kept s.bounds b s.said.items s.log.items s.starts.items c.self.invariant.0 (fewer s.bounds b grown) grown.told,
      resting_still s.bounds b s.said.items c.add_leaf.ensures.still c.self.invariant.1,
    )

pub returns-clause-stays : goal.returns-clause-stays
returns-clause-stays c =
    let s = c.self.inside in
    let b = c.add_leaf.new.bounds in
    let old : State = record { bounds = s.bounds; said = s.said.items; log = s.log.items } in
    let new : State = record { bounds = b; said = s.said.items; log = s.log.items } in
    subst (λ (o : State). KnowsTheSame o new) c.self.view_is (knows_kept old new refl (keeps_where_grown s.bounds b c.add_leaf.ensures.grown))

pub returns-clause-columns : goal.returns-clause-columns
returns-clause-columns c = λ k.
    let s = c.self.inside in
    let b = c.add_leaf.new.bounds in
    let old : State = record { bounds = s.bounds; said = s.said.items; log = s.log.items } in
    let new : State = record { bounds = b; said = s.said.items; log = s.log.items } in
    subst (λ (o : State). AddsColumns o (term_at_most c.args.term k) new) c.self.view_is (columns_leaf old new c.args.term k c.add_leaf.ensures.sums)

pub returns-clause-variables : goal.returns-clause-variables
returns-clause-variables c =
    let s = c.self.inside in
    let old : State = record { bounds = s.bounds; said = s.said.items; log = s.log.items } in
    let new : State = record { bounds = c.add_leaf.new.bounds; said = s.said.items; log = s.log.items } in
    subst (λ (o : State). GrowsVariables o new) c.self.view_is (grows old new c.add_leaf.ensures.grown c.add_leaf.ensures.bases)
