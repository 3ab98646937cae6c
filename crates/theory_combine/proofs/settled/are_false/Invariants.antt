use Rattle.std.proofs.Common.{ℕ, ◌<◌}
use Rattle.std.specs.Prelude.{slice_index_or}
use Rattle.literals.specs.Signed.{Signed}
use Rattle.search_port.specs.State.{IsFalseIn}
use Rattle.theory_combine.proofs.settled.are_false.Given as goal

abbrev pub invariant-loop-literal : goal.invariant-loop-literal
invariant-loop-literal l = (j : ℕ) (d : Signed) → j < l.literal-index → IsFalseIn l.held.closure.log.items (slice_index_or l.literals j d)
