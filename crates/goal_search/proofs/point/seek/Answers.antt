use Rattle.std.proofs.Common.{◌≡◌, ◌<◌, length, sym, subst}
use Rattle.std.specs.Prelude.{IsTrue}
use Rattle.smt_meaning.specs.Interpretation.{meaning}
use Rattle.smt_meaning.specs.Least.{asking, terms_asked, value_in}
use Rattle.smt_meaning.specs.Model.{IsModel}
use Rattle.smt_meaning.specs.Sorts.{with_all}
use Rattle.smt_meaning.specs.StackCommand.{Stack}
use Rattle.smt_meaning.specs.Term.{fits, tree_at}
use Rattle.theory_port.specs.Verdicts.{IsVerdict}
use Rattle.goal_search.specs.Asks.{asked}
use Rattle.goal_search.specs.Points.{number_at}
use Rattle.goal_search.proofs.Asking.{fits_for, model_for}
use Rattle.goal_search.proofs.Above.{point_from}
use Rattle.goal_search.proofs.point.seek.Goals as goal

pub above-requires-clause-within : goal.above-requires-clause-within
above-requires-clause-within g c = subst (λ (s : Stack). c.args.term < length s.trees) (sym c.in_ok-verdict.ensures.stays) c.requires.goal.within

pub above-requires-clause-fits : goal.above-requires-clause-fits
above-requires-clause-fits g c =
    let old = c.args.stack.now in
    let t = tree_at old.trees c.args.term in
    let xs = asked c.args.text.now t c.args.asked in
    let model : IsModel (asking old.frames xs) c.in-Sat.model =
    subst (IsVerdict c.args.settings.now.workers (with_all old.trees (terms_asked xs)) (asking old.frames xs) c.args.settings.now.units) c.in-Sat.is c.in_ok-verdict.ensures.verdict in
    subst (λ (s : Stack). IsTrue (fits (meaning c.in-Sat.model) (tree_at s.trees c.args.term))) (sym c.in_ok-verdict.ensures.stays)
    (fits_for old.frames c.args.text.now t c.in-Sat.model (model_for old.frames c.args.text.now t c.args.asked c.in-Sat.model model))

pub returns-in_ok-above-in-Sat-clause-step : goal.returns-in_ok-above-in-Sat-clause-step
returns-in_ok-above-in-Sat-clause-step g c =
    let old = c.args.stack.now in
    let t = tree_at old.trees c.args.term in
    let xs = asked c.args.text.now t c.args.asked in
    let model : IsModel (asking old.frames xs) c.in-Sat.model =
    subst (IsVerdict c.args.settings.now.workers (with_all old.trees (terms_asked xs)) (asking old.frames xs) c.args.settings.now.units) c.in-Sat.is c.in_ok-verdict.ensures.verdict in
    point_from old.frames c.args.text.now t c.args.asked c.in-Sat.model c.in_ok-above-in-Sat.above model
    (subst (λ (s : Stack). value_in c.in-Sat.model (tree_at s.trees c.args.term) ≡ number_at c.in_ok-above-in-Sat.above) c.in_ok-verdict.ensures.stays c.in_ok-above-in-Sat.ensures.value)
    c.in_ok-above-in-Sat.ensures.within

pub returns-in-Unsat-clause-step : goal.returns-in-Unsat-clause-step
returns-in-Unsat-clause-step g c =
    let old = c.args.stack.now in
    let xs = asked c.args.text.now (tree_at old.trees c.args.term) c.args.asked in
    subst (IsVerdict c.args.settings.now.workers (with_all old.trees (terms_asked xs)) (asking old.frames xs) c.args.settings.now.units) c.in-Unsat.is c.in_ok-verdict.ensures.verdict

pub returns-in-Unknown-clause-step : goal.returns-in-Unknown-clause-step
returns-in-Unknown-clause-step g c =
    let old = c.args.stack.now in
    let xs = asked c.args.text.now (tree_at old.trees c.args.term) c.args.asked in
    subst (IsVerdict c.args.settings.now.workers (with_all old.trees (terms_asked xs)) (asking old.frames xs) c.args.settings.now.units) c.in-Unknown.is c.in_ok-verdict.ensures.verdict
