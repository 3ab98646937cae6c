use Rattle.std.proofs.Common.{ℤ, sym, ap, ◌∙◌}
use Rattle.std.specs.Prelude.{int_le}
use Rattle.literals.specs.Signed.{sign}
use Rattle.difference_logic.proofs.Units.{one_plus, one_minus}
use Rattle.difference_logic.proofs.difference.of_one.Goals as goal

pub returns-then-is_plus : goal.returns-then-is_plus
returns-then-is_plus c = λ f h.
    c.signed.ensures f
    (sym
    (ap (λ (z : ℤ). sign c.args.positive (int_le z c.args.bound.threshold))
    (one_plus c.args.one.coefficient (f c.args.one.term) _ (c.is_plus.ensures c.if-is_plus.true) (c.in_ok-node.ensures f)))
    ∙ h)

pub returns-then-is_minus : goal.returns-then-is_minus
returns-then-is_minus c = λ f h.
    c.signed-then-is_minus.ensures f
    (sym
    (ap (λ (z : ℤ). sign c.args.positive (int_le z c.args.bound.threshold))
    (one_minus c.args.one.coefficient (f c.args.one.term) _ (c.is_minus.ensures c.if-is_minus.true) (c.in_ok-node.ensures f)))
    ∙ h)
