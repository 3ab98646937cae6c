use Rattle.std.proofs.Common.{subst, sym, ◌∙◌, refl}
use Rattle.smt_meaning.specs.State.{State}
use Rattle.session.specs.Logics.{named}
use Rattle.session.specs.Above.{above_by}
use Rattle.session.specs.LastCheck.{IsOfLastCheck}
use Rattle.session.proofs.Lasts.{of_last_check}
use Rattle.session.proofs.state.Session.into_last_check.Goals as goal

pub returns-clause-some : goal.returns-clause-some
returns-clause-some c =
    let s = c.self.inside in
    let now : State = record { settings = s.settings; logic = named s.logic; mode = s.mode; options = s.options; stack = s.stack; above = above_by s.stack.trees s.above } in
    subst (λ (t : State). IsOfLastCheck t c.into_stack.result c.into_assumptions.result) c.self.view_is
    (rw c.into_assumptions.ensures
    (of_last_check now c.into_stack.result s.above (sym c.is_after_check.ensures ∙ c.if-not-is_after_check.false) c.into_stack.ensures.same refl c.self.invariant.0))
