use Rattle.std.proofs.Common.{◌≡◌, ◌<◌, ◌++◌, ◌-◌, All, length}
use Rattle.script_gen.specs.Draws.{draws}
use Rattle.script_gen.proofs.draws.draws.Given as goal

abbrev pub invariant-loop : goal.invariant-loop
invariant-loop l = record {
  drawn : (l.numbers.items ++ (draws l.bound (l.count - l.counter) l.rng).0, (draws l.bound (l.count - l.counter) l.rng).1) ≡ draws l.bound l.count l.initial.rng;
  below : All (λ d. d < l.bound) l.numbers.items;
  count : length l.numbers.items ≡ l.counter;
}
