use Rattle.std.proofs.Common.{◌∙◌, ◌∷◌, [], ap, sym, subst, length}
use Rattle.smt_meaning.specs.StackCommand.{Stack}
use Rattle.scope_stack.specs.Carries.{IsAsked}
use Rattle.session.specs.Minimized.{IsGoalAsked}
use Rattle.session.proofs.minimizing.minimize_under.Goals as goal

pub returns-in-Err-clause-sought : goal.returns-in-Err-clause-sought
returns-in-Err-clause-sought g c =
    let k : IsGoalAsked c.args.text.now c.in_ok-term.term c.args.stack.now c.ask_goal.new.stack = c.in_ok-term.ensures in
    c.forget.ensures (c.args.text.now ∷ []) k.asked c.args.stack.now (sym (c.len-count.ensures.value ∙ ap length c.terms.ensures.trees))
    (subst (λ (s : Stack). IsAsked (c.args.text.now ∷ []) k.asked c.args.stack.now s) (sym c.in-Err.ensures.err) k.is_asked)
