use Rattle.std.proofs.Common.{◌≡◌, ◌<◌, ap, sym, refl, rules}
use Rattle.std.proofs.lemmas.Result.{IfOk-weaker}
use Rattle.smt_meaning.specs.State.{State}
use Rattle.session.specs.Above.{above_by}
use Rattle.session.proofs.Replies.{asked_so}
use Rattle.std.proofs.Props.{props}
use Rattle.session.proofs.state.Session.get_value.Goals as goal

pub returns-clause-ok : goal.returns-clause-ok
returns-clause-ok c =
    let s = c.self.inside in
    IfOk-weaker c.values_of.result _ _
    (λ r h. asked_so c.args.self.now c.in-Sat.model c.args.terms.now c.args.terms.now s.stack c.values_of.new.stack s.above r _
    (search rules) (search rules) refl (ap (λ (t : State). t.stack) c.self.view_is) h c.values_of.ensures.trees c.self.invariant.0
    (sym (ap (λ (t : State). t.above) c.self.view_is))
    (ap (λ (t : State). record t { stack = c.values_of.new.stack; above = above_by c.values_of.new.stack.trees s.above }) c.self.view_is))
    c.values_of.ensures.ok

pub same-self : goal.same-self
same-self c =
    let s = c.self.inside in
    let same : (x y : 0 < s.settings.workers) → x ≡ y = hlevel props in
    λ i. record { settings = s.settings; logic = s.logic; mode = s.mode; options = s.options; stack = s.stack; above = s.above; crew = same c.self-in_default-1.given.0 s.crew i }

pub same-self-then-not-self : goal.same-self-then-not-self
same-self-then-not-self c =
    let s = c.self.inside in
    let same : (x y : 0 < s.settings.workers) → x ≡ y = hlevel props in
    λ i. record { settings = s.settings; logic = s.logic; mode = s.mode; options = s.options; stack = s.stack; above = s.above; crew = same c.self-then-not-self-1.given.0 s.crew i }
