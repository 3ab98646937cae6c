use Rattle.std.proofs.Common.{◌∙◌, ap, []}
use Rattle.smt_meaning.specs.declared.answers.Mode.TheVariants as In
use Rattle.smt_meaning.specs.declared.settings.Settings.{Settings}
use Rattle.smt_meaning.specs.State.{State}
use Rattle.session.specs.Logics.{named}
use Rattle.session.proofs.Refutes.{under_refutes}
use Rattle.session.proofs.Replies.{assumed_ok}
use Rattle.session.proofs.state.Session.check_assuming.Goals as goal

pub conclude-requires-clause-refuted : goal.conclude-requires-clause-refuted
conclude-requires-clause-refuted g c =
    under_refutes c.in-Ok.assumed.answer.mode c.check_under.new.stack c.in-Ok.assumed.assumptions c.in-Ok.ensures.checked.refuted

pub returns-in-Ok-clause-ok : goal.returns-in-Ok-clause-ok
returns-in-Ok-clause-ok g c =
    let s = c.self.inside in
    let mid : State = record { settings = s.settings; logic = named s.logic; mode = In.Assert; options = s.options; stack = c.check_under.new.stack; above = [] } in
    assumed_ok c.args.self.now mid s.stack c.check_under.new.stack c.args.terms.now c.in_force-settings.result.workers c.in_force-settings.result.units c.in-Ok.assumed _ _ c.conclude.new.self
    (ap (λ (t : State). t.stack) c.self.view_is) c.in-Ok.ensures.checked
    (ap (λ (x : Settings). x.workers) c.in_force-settings.ensures ∙ ap (λ (t : State). t.settings.workers) c.self.view_is)
    (ap (λ (x : Settings). x.units) c.in_force-settings.ensures ∙ ap (λ (t : State). t.options.reproducible_resource_limit) c.self.view_is)
    (ap (λ (t : State). record t { mode = In.Assert; stack = c.check_under.new.stack; above = [] }) c.self.view_is) c.conclude.ensures.state c.conclude.ensures.reply c.conclude.ensures.kept
