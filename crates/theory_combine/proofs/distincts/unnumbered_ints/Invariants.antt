use Rattle.std.proofs.Common.{ℕ, ◌<◌}
use Rattle.std.specs.Prelude.{slice_index_or}
use Rattle.theory_combine.specs.Settling.{HasTellableInts}
use Rattle.theory_combine.proofs.distincts.unnumbered_ints.Given as goal

abbrev pub invariant-loop-place : goal.invariant-loop-place
invariant-loop-place l = (j : ℕ) (d : ℕ) → j < l.place-index → HasTellableInts l.parts l.progress l.given (slice_index_or l.parts.wide_distincts.items j d)
