use Rattle.std.proofs.Common.{ℕ, ◌<◌, ◌≤◌, All, take}
use Rattle.model_eval.proofs.marks.top_of.Given as goal

abbrev pub invariant-loop-term : goal.invariant-loop-term
invariant-loop-term l = record {
  below : All (λ i. i < l.top) (take l.term-index l.terms);
  least : (n : ℕ) → All (λ i. i < n) l.terms → l.top ≤ n;
}
