use Rattle.sum_bounds.proofs.SplitLaws.{resolvent_of}
use Rattle.sum_bounds.proofs.splits.resolvent.Goals as goal

pub returns : goal.returns
returns c =
    resolvent_of c.args.below.now c.args.above.now c.put_others.new.clause.items c.put_others-2.new.clause.items c.new-clause.result.items c.new-clause.ensures.items c.in_ok-put_others.ensures
    c.in_ok-put_others-2.ensures
