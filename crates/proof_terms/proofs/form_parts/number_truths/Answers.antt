use Rattle.proof_terms.proofs.FormNumbers.{extends_further, truths_more}
use Rattle.proof_terms.proofs.form_parts.number_truths.Goals as goal

pub loop-place-preserved : goal.loop-place-preserved
loop-place-preserved c = (
  extends_further c.args.clauses.now c.loop-place.clauses c.number_truth.new.clauses c.loop-place.invariant.0 c.number_truth.ensures.more,
  truths_more c.loop-place.clauses c.number_truth.new.clauses c.loop-place.numbers.items c.push.new.self.items c.args.places.now c.loop-place.place-index c.in_ok-number.number
      c.number_truth.ensures.more c.loop-place-test.true c.loop-place.invariant.1 c.in_ok-number.ensures.number c.in_ok-push.ensures.items,
)

pub returns-in_err-number-clause-more : goal.returns-in_err-number-clause-more
returns-in_err-number-clause-more c = extends_further c.args.clauses.now c.loop-place.clauses c.number_truth.new.clauses c.loop-place.invariant.0 c.number_truth.ensures.more

pub returns-in_err-push-clause-more : goal.returns-in_err-push-clause-more
returns-in_err-push-clause-more c = extends_further c.args.clauses.now c.loop-place.clauses c.number_truth.new.clauses c.loop-place.invariant.0 c.number_truth.ensures.more
