use Rattle.std.proofs.Common.{rules, ◌≡◌, ◌<◌, ◌++◌, ◌∙◌, length, sym, ap, subst}
use Rattle.tableau.specs.Failing.{IsRange}
use Rattle.bound_log.specs.declared.said.Said.{Said}
use Rattle.bound_log.specs.Told.{State, said_at, told_by, IsPast}
use Rattle.bound_log.specs.Columns.{KeepsColumns}
use Rattle.bound_log.specs.Pending.{FailsToTell}
use Rattle.bound_log.proofs.Telling.{core_told}
use Rattle.bound_log.proofs.Resting.{resting_still, still_values}
use Rattle.bound_log.proofs.Columns.{columns_by_values}
use Rattle.bound_log.proofs.Taking.{err_is, fails_to_tell}
use Rattle.bound_log.specs.Growth.{KeepsVariables}
use Rattle.bound_log.proofs.KeptVariables.{kept_by_values}
use Rattle.bound_log.proofs.log.BoundLog.tell.Goals as goal

pub invariant_of-self-2 : goal.invariant_of-self-2
invariant_of-self-2 c =
    let s = c.self.inside in
    let t = c.tell_said.new in
    let h = c.in_ok-tell_said.ensures in
    let number : c.args.literal.atom < length s.said.items = subst (λ (o : State). c.args.literal.atom < length o.said) (sym c.self.view_is) c.requires in
    let said : c.said_of-said.result ≡ said_at s.said.items c.args.literal.atom = search rules in (
      core_told s.bounds t.bounds s.said.items s.log.items t.log.items s.starts.items t.starts.items c.args.literal c.self.invariant.0 number h.values.count
          (h.told ∙ ap (λ (d : Said). s.bounds.told ++ told_by d c.args.literal) said) h.log h.starts,
      resting_still s.bounds t.bounds s.said.items (still_values s.bounds t.bounds h.table h.values) c.self.invariant.1,
    )

pub returns-clause-columns : goal.returns-clause-columns
returns-clause-columns c =
    let s = c.self.inside in
    let t = c.tell_said.new in
    let old : State = record { bounds = s.bounds; said = s.said.items; log = s.log.items } in
    let new : State = record { bounds = t.bounds; said = s.said.items; log = t.log.items } in
    subst (λ (o : State). KeepsColumns o new) c.self.view_is (columns_by_values old new c.tell_said.ensures.values)

pub returns-in_err-tell_said-clause-fails : goal.returns-in_err-tell_said-clause-fails
returns-in_err-tell_said-clause-fails c =
    let s = c.self.inside in
    let l = c.args.literal in
    let old : State = record { bounds = s.bounds; said = s.said.items; log = s.log.items } in
    let number : l.atom < length s.said.items = subst (λ (o : State). l.atom < length o.said) (sym c.self.view_is) c.requires in
    let said : c.said_of-said.result ≡ said_at s.said.items l.atom = search rules in
    err_is c.from_residual.result c.in_err-tell_said.field-0.0 (λ e. IsRange e → FailsToTell c.args.self.now l) c.from_residual.ensures.1
    (λ r.
    subst (λ (o : State). FailsToTell o l) c.self.view_is
    (fails_to_tell old l c.in_err-tell_said.field-0.0 number (subst (λ (d : Said). IsPast d l c.in_err-tell_said.field-0.0) said (c.in_err-tell_said.ensures.range r))))

pub returns-in_err-tell_said-clause-variables : goal.returns-in_err-tell_said-clause-variables
returns-in_err-tell_said-clause-variables c =
    let s = c.self.inside in
    let t = c.tell_said.new in
    let old : State = record { bounds = s.bounds; said = s.said.items; log = s.log.items } in
    let new : State = record { bounds = t.bounds; said = s.said.items; log = t.log.items } in
    subst (λ (o : State). KeepsVariables o new) c.self.view_is (kept_by_values old new c.tell_said.ensures.table c.tell_said.ensures.values)

pub returns-clause-variables : goal.returns-clause-variables
returns-clause-variables c =
    let s = c.self.inside in
    let t = c.tell_said.new in
    let old : State = record { bounds = s.bounds; said = s.said.items; log = s.log.items } in
    let new : State = record { bounds = t.bounds; said = s.said.items; log = t.log.items } in
    subst (λ (o : State). KeepsVariables o new) c.self.view_is (kept_by_values old new c.tell_said.ensures.table c.tell_said.ensures.values)
