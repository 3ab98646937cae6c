use Rattle.std.proofs.Common.{ℤ, sym, ap, ◌∙◌}
use Rattle.std.specs.Prelude.{int_le}
use Rattle.literals.specs.Signed.{sign}
use Rattle.difference_logic.proofs.Units.{plus_minus, minus_plus}
use Rattle.difference_logic.proofs.difference.of_two.Goals as goal

pub returns-then-is_minus : goal.returns-then-is_minus
returns-then-is_minus c = λ f h.
    c.signed.ensures f
    (sym
    (ap (λ (z : ℤ). sign c.args.positive (int_le z c.args.bound.threshold))
    (plus_minus c.args.one.coefficient (f c.args.one.term) _ c.args.other.coefficient (f c.args.other.term) _ (c.is_plus.ensures c.if-is_plus.true) (c.in_ok-first.ensures f)
    (c.is_minus.ensures c.if-is_minus.true) (c.in_ok-second.ensures f)))
    ∙ h)

pub returns-then-is_plus-2 : goal.returns-then-is_plus-2
returns-then-is_plus-2 c = λ f h.
    c.signed-then-is_plus-2.ensures f
    (sym
    (ap (λ (z : ℤ). sign c.args.positive (int_le z c.args.bound.threshold))
    (minus_plus c.args.one.coefficient (f c.args.one.term) _ c.args.other.coefficient (f c.args.other.term) _ (c.is_minus-2.ensures c.if-is_minus-2.true) (c.in_ok-first.ensures f)
    (c.is_plus-then-is_minus-2.ensures c.if-is_plus-2.true) (c.in_ok-second.ensures f)))
    ∙ h)
