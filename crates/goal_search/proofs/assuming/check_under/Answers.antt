use Rattle.std.proofs.Common.{◌≡◌, ◌∙◌, ap, sym, subst, length}
use Rattle.smt_meaning.specs.StackCommand.{Stack}
use Rattle.scope_stack.specs.Carries.{IsAssumed}
use Rattle.goal_search.proofs.Unders.{checked_under}
use Rattle.goal_search.proofs.assuming.check_under.Goals as goal

pub returns-in-Ok-clause-checked : goal.returns-in-Ok-clause-checked
returns-in-Ok-clause-checked g c =
    let old = c.args.stack.now in
    let mid = c.assume.new.self in
    let xs = c.assertions-below.result.now in
    let k : IsAssumed c.args.terms.now c.in_ok-assume.ensures.0 old mid = c.in_ok-assume.ensures.1 in
    let stays : c.answered.new.stack ≡ mid = c.answered.ensures.stays in
    checked_under c.args.settings.now.workers c.args.settings.now.units c.args.terms.now c.in_ok-assume.ensures.0 old mid c.withdraw.new.self xs c.in-Ok.assumed c.assertions-below.ensures k c.in-Ok.ensures.answered
    (c.withdraw.ensures c.args.terms.now c.in_ok-assume.ensures.0 old (subst (IsAssumed c.args.terms.now c.in_ok-assume.ensures.0 old) (sym stays) k) ∙ ap (λ (s : Stack). record old { trees = s.trees }) stays)

pub returns-in-Err-clause-checked : goal.returns-in-Err-clause-checked
returns-in-Err-clause-checked g c =
    let old = c.args.stack.now in
    let k : IsAssumed c.args.terms.now c.in_ok-assume.ensures.0 old c.assume.new.self = c.in_ok-assume.ensures.1 in
    let many : length old.trees ≡ c.len-count.result = sym (c.len-count.ensures.value ∙ ap length c.terms.ensures.trees) in
    c.take_back.ensures c.args.terms.now c.in_ok-assume.ensures.0 old many (subst (IsAssumed c.args.terms.now c.in_ok-assume.ensures.0 old) (sym c.answered.ensures.stays) k)
