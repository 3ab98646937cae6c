use Rattle.std.proofs.Common.{◌≡◌, ℕ, ◌<◌, ◌+◌, length}
use Rattle.std.specs.Prelude.{slice_index, slice_index_or}
use Rattle.point_closure.specs.Unions.{root_of}
use Rattle.closure_log.proofs.distinct.equal_arguments.Given as goal

abbrev pub invariant-loop-later : goal.invariant-loop-later
invariant-loop-later l =
    (length l.newest ≡ length l.fn.newest)
    × ((e : ℕ) → e < l.later → slice_index l.newest (root_of l.congruence.closure.classes.unions (slice_index_or l.terms e 0 + 2)) ≡ e)
