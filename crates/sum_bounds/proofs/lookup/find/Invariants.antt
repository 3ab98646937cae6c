use Rattle.sum_bounds.proofs.Lookups.{Passed}
use Rattle.sum_bounds.proofs.lookup.find.Given as goal

abbrev pub invariant-loop-link : goal.invariant-loop-link
invariant-loop-link l = Passed l.simplex.columns l.keys l.sum l.link

abbrev pub decreases-loop-link : goal.decreases-loop-link
decreases-loop-link l = l.link
