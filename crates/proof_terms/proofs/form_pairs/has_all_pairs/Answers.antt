use Rattle.std.proofs.Common.{Ok, ap}
use Rattle.proof_terms.proofs.FormNumbers.{extends_further}
use Rattle.proof_terms.proofs.FormPlaces.{one_more_front, all_fronts}
use Rattle.proof_terms.proofs.form_pairs.has_all_pairs.Goals as goal

pub loop-front-preserved : goal.loop-front-preserved
loop-front-preserved c = (
  extends_further c.args.clauses.now c.loop-front.clauses c.has_pairs.new.clauses c.loop-front.invariant.0 c.has_pairs.ensures.more,
  one_more_front c.loop-front.clauses c.has_pairs.new.clauses c.args.codes.now c.args.terms.now c.args.backward.now c.args.fronts.now c.args.rears.now c.loop-front.front-index c.has_pairs.ensures.more
      c.loop-front.invariant.1 (c.in_ok-has_pairs.ensures.yes (ap Ok c.if-not-branch.false)),
)

pub returns-clause-yes : goal.returns-clause-yes
returns-clause-yes c = λ _.
    all_fronts c.loop-front.clauses.atoms c.args.codes.now c.args.terms.now c.args.backward.now c.args.fronts.now c.args.rears.now c.loop-front.front-index c.loop-front-test.false c.loop-front.invariant.1

pub returns-in_err-has_pairs-clause-more : goal.returns-in_err-has_pairs-clause-more
returns-in_err-has_pairs-clause-more c = extends_further c.args.clauses.now c.loop-front.clauses c.has_pairs.new.clauses c.loop-front.invariant.0 c.has_pairs.ensures.more

pub returns-then-not-branch-clause-more : goal.returns-then-not-branch-clause-more
returns-then-not-branch-clause-more c = extends_further c.args.clauses.now c.loop-front.clauses c.has_pairs.new.clauses c.loop-front.invariant.0 c.has_pairs.ensures.more
