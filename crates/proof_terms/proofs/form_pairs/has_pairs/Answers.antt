use Rattle.std.proofs.Common.{Ok, ap, get_or}
use Rattle.proof_terms.proofs.FormNumbers.{extends_further}
use Rattle.proof_terms.proofs.FormPlaces.{one_more_positive, all_positive}
use Rattle.proof_terms.proofs.form_pairs.has_pairs.Goals as goal

pub loop-rear-preserved : goal.loop-rear-preserved
loop-rear-preserved c = (
  extends_further c.args.clauses.now c.loop-rear.clauses c.has_pair.new.clauses c.loop-rear.invariant.0 c.has_pair.ensures.more,
  one_more_positive c.loop-rear.clauses c.has_pair.new.clauses c.args.codes.now c.args.backward.now c.args.rears.now (get_or c.args.terms.now c.args.front 0) c.loop-rear.rear-index c.has_pair.ensures.more c.loop-rear.invariant.1
      (c.in_ok-has_pair.ensures.yes (ap Ok c.if-not-branch.false)),
)

pub returns-clause-yes : goal.returns-clause-yes
returns-clause-yes c = λ _.
    all_positive c.loop-rear.clauses.atoms c.args.codes.now c.args.terms.now c.args.backward.now c.args.rears.now c.args.front c.loop-rear.rear-index c.loop-rear-test.false c.loop-rear.invariant.1

pub returns-in_err-has_pair-clause-more : goal.returns-in_err-has_pair-clause-more
returns-in_err-has_pair-clause-more c = extends_further c.args.clauses.now c.loop-rear.clauses c.has_pair.new.clauses c.loop-rear.invariant.0 c.has_pair.ensures.more

pub returns-then-not-branch-clause-more : goal.returns-then-not-branch-clause-more
returns-then-not-branch-clause-more c = extends_further c.args.clauses.now c.loop-rear.clauses c.has_pair.new.clauses c.loop-rear.invariant.0 c.has_pair.ensures.more
