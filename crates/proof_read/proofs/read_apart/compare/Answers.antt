use Rattle.std.proofs.Common.{refl, arith, ◌∙◌}
use Rattle.proof_read.proofs.ReadCompareLemmas.{compares_first, left_wins, right_wins, compares_next, compares_last}
use Rattle.proof_read.proofs.read_apart.compare.Goals as goal

pub loop-place-init : goal.loop-place-init
loop-place-init c = compares_first _ _ _ _ refl refl

pub returns-then-lead-ge24 : goal.returns-then-lead-ge24
returns-then-lead-ge24 c =
    left_wins _ _ _ _ _ _ _ _ (omega (arith, c.max-count.ensures)) (omega (arith, c.max-count.ensures)) c.loop-place-test.true c.loop-place.invariant c.digit_at.ensures.value
    c.digit_at-in-loop-place.ensures.value c.after-lead.ensures (λ k. omega (arith, c.type_inv.right k)) c.if-lead-ge24.true

pub returns-then-lead-ge24-2 : goal.returns-then-lead-ge24-2
returns-then-lead-ge24-2 c =
    right_wins _ _ _ _ _ _ _ _ (omega (arith, c.max-count.ensures)) (omega (arith, c.max-count.ensures)) c.loop-place-test.true c.loop-place.invariant c.digit_at.ensures.value
    c.digit_at-in-loop-place.ensures.value c.after-lead.ensures (λ k. omega (arith, c.type_inv.left k)) c.if-lead-ge24-2.true

pub loop-place-preserved : goal.loop-place-preserved
loop-place-preserved c =
    compares_next _ _ _ _ _ _ _ _ (omega (arith, c.max-count.ensures)) (omega (arith, c.max-count.ensures)) c.loop-place-test.true c.loop-place.invariant c.digit_at.ensures.value
    c.digit_at-in-loop-place.ensures.value c.after-lead.ensures c.if-lead-ge24.false c.if-lead-ge24-2.false

pub returns : goal.returns
returns c =
    c.cmp.ensures ∙ compares_last _ _ _ _ _ (omega (arith, c.max-count.ensures)) (omega (arith, c.max-count.ensures)) c.loop-place-test.false c.loop-place.invariant
