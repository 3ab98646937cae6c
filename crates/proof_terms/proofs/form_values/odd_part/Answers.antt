use Rattle.std.proofs.Common.{◌+◌, take, sym, subst, ◌∙◌}
use Rattle.proof_terms.specs.FormValues.{IsWaiting}
use Rattle.proof_terms.proofs.FormOdd.{waiting_more, waiting_given, waiting_all, waiting_stop}
use Rattle.proof_terms.proofs.form_values.odd_part.Goals as goal
use Rattle.proof_terms.proofs.form_values.odd_part.Goals.{then-is_free+else-is_other, else-is_free}

pub returns-then-is_other : goal.returns-then-is_other
returns-then-is_other c =
    waiting_stop c.args.codes.now c.args.sorted.now c.loop-number.number-index c.loop-number.odd c.requires.sorted c.loop-number-test.true c.loop-number.invariant
    (c.is_other.ensures.other c.if-is_other.true)

pub loop-number-preserved : goal.loop-number-preserved
loop-number-preserved c = elim c.if-is_free.branch [
  | then-is_free+else-is_other w ↦
      subst (IsWaiting c.args.codes.now (take (c.loop-number.number-index + 1) c.args.sorted.now)) (sym (w.odd-is ∙ w.once_more-odd.ensures))
      (waiting_more c.args.codes.now c.args.sorted.now c.loop-number.number-index c.loop-number.odd c.loop-number-test.true (c.is_free.ensures.free w.if-is_free.true) c.loop-number.invariant
      (w.is_other.ensures.same w.if-is_other.false))
  | else-is_free w ↦
      subst (IsWaiting c.args.codes.now (take (c.loop-number.number-index + 1) c.args.sorted.now)) (sym w.odd-is)
      (waiting_given c.args.codes.now c.args.sorted.now c.loop-number.number-index c.loop-number.odd c.loop-number-test.true (c.is_free.ensures.given w.if-is_free.false) c.loop-number.invariant)
]

pub returns : goal.returns
returns c = waiting_all c.args.codes.now c.args.sorted.now c.loop-number.number-index c.loop-number.odd c.loop-number-test.false c.loop-number.invariant
