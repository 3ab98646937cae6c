-- A hash of a bound. No public contract speaks of it.
use Rattle.std.specs.Prelude.{ℕ, ◌/◌, ◌^◌}
use Rattle.term_store.specs.Hash.{mixed}
use Rattle.atom_form.specs.SumTableHash.{number_state}
use Rattle.atom_form.specs.declared.bound.SumBound.{SumBound}

-- the upper half of the last state
unfoldable pub bound_hash : SumBound → ℕ
bound_hash b = number_state (mixed 1 b.sum) b.threshold / 2 ^ 32
