use Rattle.std.proofs.Common.{◌≡◌, ◌++◌, take}
use Rattle.goal_search.proofs.text.append.Given as goal

abbrev pub invariant-loop-place : goal.invariant-loop-place
invariant-loop-place l = l.tokens ≡ l.fn.tokens ++ take l.place l.text
