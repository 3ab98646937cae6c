use Rattle.std.proofs.Common.{◌≡◌, ◌+◌, ◌<◌, ℕ, length}
use Rattle.std.specs.Prelude.{slice_index_or}
use Rattle.point_closure.specs.Unions.{root_of}
use Rattle.theory_combine.proofs.listing.class_numbers.Given as goal

abbrev pub invariant-loop-place : goal.invariant-loop-place
invariant-loop-place l = record {
  size : length l.classes.items ≡ l.place;
  each : (p : ℕ) → p < l.place → slice_index_or l.classes.items p 0 ≡ root_of l.congruence.closure.classes.unions (p + 2);
}
