use Rattle.std.proofs.Common.{◌≡◌, ℕ, ◌<◌, false}
use Rattle.std.specs.Prelude.{slice_index_or}
use Rattle.model_build.specs.Given.{given_at, is_past}
use Rattle.theory_combine.proofs.clashes.first_past.Given as goal

abbrev pub invariant-loop-place : goal.invariant-loop-place
invariant-loop-place l = (j d : ℕ) → j < l.place-index → is_past (given_at l.given (slice_index_or l.places j d)) ≡ false
