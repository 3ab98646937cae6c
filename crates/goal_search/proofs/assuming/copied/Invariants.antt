use Rattle.std.proofs.Common.{◌≡◌, take}
use Rattle.goal_search.proofs.assuming.copied.Given as goal

abbrev pub invariant-loop-assertion : goal.invariant-loop-assertion
invariant-loop-assertion l = l.out ≡ take l.assertion-index l.assertions
