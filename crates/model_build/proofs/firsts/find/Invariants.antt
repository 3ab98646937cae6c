use Rattle.std.proofs.Common.{map}
use Rattle.model_build.specs.Given.{given_at}
use Rattle.model_build.proofs.Kept.{Passed}
use Rattle.model_build.proofs.firsts.find.Given as goal

abbrev pub invariant-loop-link : goal.invariant-loop-link
invariant-loop-link l = Passed l.store.trees l.given l.firsts.places.items l.firsts.keys l.symbol (map (given_at l.given) l.arguments) l.hash l.link

abbrev pub decreases-loop-link : goal.decreases-loop-link
decreases-loop-link l = l.link
