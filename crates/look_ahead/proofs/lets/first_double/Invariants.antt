use Rattle.std.proofs.Common.{◌≡◌, drop, take, []}
use Rattle.std.specs.Borrow.{Bor}
use Rattle.std.specs.Prelude.{List, ℕ}
use Rattle.term_store.specs.Newest.{hashes_of}
use Rattle.look_ahead.specs.Lets.{names_of, doubled}
use Rattle.look_ahead.proofs.lets.first_double.Given as goal

abbrev pub invariant-loop-place : goal.invariant-loop-place
invariant-loop-place l = record {
  before : doubled [] (names_of l.names) ≡ doubled (names_of (take l.place l.names)) (names_of (drop l.place l.names));
  filed : l.index ≡ hashes_of (λ (b : Bor (List ℕ)). b.now) (take l.place l.names);
}
