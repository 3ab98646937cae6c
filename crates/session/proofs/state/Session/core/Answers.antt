use Rattle.std.proofs.Common.{◌∙◌, ap, length, subst, sym}
use Rattle.std.proofs.lemmas.Result.{IfOk-weaker}
use Rattle.smt_meaning.specs.declared.settings.Settings.{Settings}
use Rattle.smt_meaning.specs.Core.{IsReduced, checked_trees}
use Rattle.smt_meaning.specs.Stack.{assertions_of}
use Rattle.smt_meaning.specs.State.{State, checked_frames}
use Rattle.goal_search.specs.Tries.{AreCandidates}
use Rattle.session.specs.Refuted.{IsRefuted}
use Rattle.session.proofs.Reduces.{when_unsat}
use Rattle.session.proofs.state.Session.core.Goals as goal

pub core_of-requires-clause-refuted : goal.core_of-requires-clause-refuted
core_of-requires-clause-refuted g c =
    when_unsat c.self.inside.mode (IsRefuted c.self.inside.stack c.self.inside.above) (ap (λ (t : State). t.mode) c.self.view_is ∙ c.requires.mode) c.self.invariant.1

pub core_of-requires-clause-candidates : goal.core_of-requires-clause-candidates
core_of-requires-clause-candidates g c = subst (λ (t : State). AreCandidates 0 (length (assertions_of (checked_frames t))) c.args.places.now) (sym c.self.view_is) c.requires.candidates

pub returns-clause-core : goal.returns-clause-core
returns-clause-core g c =
    IfOk-weaker c.core_of.result _ _
    (λ hs h.
    subst (λ w. IsReduced w (checked_trees c.args.self.now) (checked_frames c.args.self.now) c.args.self.now.options.reproducible_resource_limit c.args.places.now hs)
    (ap (λ (x : Settings). x.workers) c.in_force-settings.ensures ∙ ap (λ (t : State). t.settings.workers) c.self.view_is)
    (subst (λ l. IsReduced c.in_force-settings.result.workers (checked_trees c.args.self.now) (checked_frames c.args.self.now) l c.args.places.now hs)
    (ap (λ (x : Settings). x.units) c.in_force-settings.ensures ∙ ap (λ (t : State). t.options.reproducible_resource_limit) c.self.view_is)
    (subst (λ (t : State). IsReduced c.in_force-settings.result.workers (checked_trees t) (checked_frames t) c.in_force-settings.result.units c.args.places.now hs) c.self.view_is h)))
    c.core_of.ensures.core
