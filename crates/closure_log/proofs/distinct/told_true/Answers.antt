use Rattle.std.proofs.Common.{◌≡◌, true, false, sym, ◌∙◌}
use Rattle.closure_log.proofs.distinct.told_true.Goals as goal

pub returns-else-is_positive-clause-none : goal.returns-else-is_positive-clause-none
returns-else-is_positive-clause-none c = λ g.
    let clash : true ≡ false = c.in_ok-literal.ensures.one true g ∙ sym c.is_positive.ensures ∙ c.if-is_positive.false in
    absurd cc
