use Rattle.std.proofs.Common.{◌∙◌, ap, []}
use Rattle.smt_meaning.specs.declared.answers.Mode.TheVariants as In
use Rattle.smt_meaning.specs.declared.settings.Settings.{Settings}
use Rattle.smt_meaning.specs.State.{State}
use Rattle.session.specs.Logics.{named}
use Rattle.session.proofs.Replies.{check_so}
use Rattle.session.proofs.Refutes.{check_refutes}
use Rattle.session.proofs.state.Session.check.Goals as goal

pub enter-requires-clause-refuted : goal.enter-requires-clause-refuted
enter-requires-clause-refuted g c =
    let set = c.in_force-settings.result in
    check_refutes set.workers set.units c.self.inside.stack c.checked.new.stack c.in_ok-answer.answer c.in_ok-answer.ensures.checked c.checked.ensures.stays

pub returns-clause-ok : goal.returns-clause-ok
returns-clause-ok g c =
    let s = c.self.inside in
    let set = c.in_force-settings.result in
    let mid : State = record { settings = s.settings; logic = named s.logic; mode = In.Assert; options = s.options; stack = c.checked.new.stack; above = [] } in
    check_so c.args.self.now mid s.stack c.checked.new.stack set.workers set.units c.in_ok-answer.answer c.enter.new.self
    (ap (λ (t : State). t.stack) c.self.view_is) c.checked.ensures.stays c.in_ok-answer.ensures.checked
    (ap (λ (x : Settings). x.workers) c.in_force-settings.ensures ∙ ap (λ (t : State). t.settings.workers) c.self.view_is)
    (ap (λ (x : Settings). x.units) c.in_force-settings.ensures ∙ ap (λ (t : State). t.options.reproducible_resource_limit) c.self.view_is)
    (ap (λ (t : State). record t { mode = In.Assert; stack = c.checked.new.stack; above = [] }) c.self.view_is) c.enter.ensures
