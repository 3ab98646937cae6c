use Rattle.std.proofs.Common.{ap, subst}
use Rattle.bound_log.specs.declared.said.Said.TheVariants.{Nothing}
use Rattle.bound_log.specs.Told.{State}
use Rattle.bound_log.specs.Atoms.{KnowsOneMore}
use Rattle.bound_log.proofs.Telling.{core_more}
use Rattle.bound_log.proofs.Growing.{keeps_self}
use Rattle.bound_log.proofs.Resting.{resting_more}
use Rattle.bound_log.proofs.Knowing.{knows_more}
use Rattle.bound_log.proofs.Columns.{columns_other}
use Rattle.bound_log.proofs.KeptVariables.{grows_self}
use Rattle.bound_log.proofs.log.BoundLog.know_other.Goals as goal

pub invariant_of-self-2 : goal.invariant_of-self-2
invariant_of-self-2 c =
    let s = c.self.inside in (
      core_more s.bounds s.said.items c.add.new.said.items s.log.items s.starts.items Nothing c.self.invariant.0 c.in_ok-add.ensures.ok c.in_ok-add.ensures.few tt,
      resting_more s.bounds s.said.items c.add.new.said.items Nothing c.in_ok-add.ensures.ok c.self.invariant.1,
    )

pub returns-clause-knows : goal.returns-clause-knows
returns-clause-knows c = λ a says.
    let s = c.self.inside in
    let old : State = record { bounds = s.bounds; said = s.said.items; log = s.log.items } in
    let new : State = record { bounds = s.bounds; said = c.add.new.said.items; log = s.log.items } in
    subst (λ (o : State). KnowsOneMore o a new) c.self.view_is (knows_more old new a Nothing c.in_ok-add.ensures.ok (keeps_self s.bounds) says)

pub returns-in_err-add-clause-columns : goal.returns-in_err-add-clause-columns
returns-in_err-add-clause-columns c = λ a.
    let s = c.self.inside in
    let new : State = record { bounds = s.bounds; said = c.add.new.said.items; log = s.log.items } in
    columns_other c.args.self.now new a (ap (λ (o : State). o.bounds) c.self.view_is)

pub returns-clause-columns : goal.returns-clause-columns
returns-clause-columns c = λ a.
    let s = c.self.inside in
    let new : State = record { bounds = s.bounds; said = c.add.new.said.items; log = s.log.items } in
    columns_other c.args.self.now new a (ap (λ (o : State). o.bounds) c.self.view_is)

pub returns-in_err-add-clause-variables : goal.returns-in_err-add-clause-variables
returns-in_err-add-clause-variables c =
    let s = c.self.inside in
    grows_self c.args.self.now (record { bounds = s.bounds; said = c.add.new.said.items; log = s.log.items }) (ap (λ (o : State). o.bounds) c.self.view_is)

pub returns-clause-variables : goal.returns-clause-variables
returns-clause-variables c =
    let s = c.self.inside in
    grows_self c.args.self.now (record { bounds = s.bounds; said = c.add.new.said.items; log = s.log.items }) (ap (λ (o : State). o.bounds) c.self.view_is)
