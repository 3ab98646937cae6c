use Rattle.std.proofs.Common.{◌≡◌, ℕ, ◌<◌, length, get_or}
use Rattle.model_build.specs.Given.{given_at}
use Rattle.model_build.proofs.applications.are_same.Given as goal

abbrev pub invariant-loop-i : goal.invariant-loop-i
invariant-loop-i l = record {
  size : length l.a ≡ length l.b;
  same : (k : ℕ) → k < l.i → given_at l.given (get_or l.a k 0) ≡ given_at l.given (get_or l.b k 0);
}
