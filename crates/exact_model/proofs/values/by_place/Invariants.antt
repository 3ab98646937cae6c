use Rattle.std.proofs.Common.{◌≡◌, ℕ, length, map, take, All}
use Rattle.smt_meaning.specs.declared.values.Value.{Value}
use Rattle.exact_model.specs.Places.{value_at}
use Rattle.exact_model.proofs.values.by_place.Given as goal

abbrev pub invariant-loop-k : goal.invariant-loop-k
invariant-loop-k l = record {
  size : length l.all.items ≡ l.count;
  each : (f : ℕ → Value) → l.values ≡ map f l.places → All (λ p. value_at l.all.items p ≡ f p) (take l.k l.places);
}
