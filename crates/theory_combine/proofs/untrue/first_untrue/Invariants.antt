use Rattle.std.proofs.Common.{ℕ, ◌<◌}
use Rattle.std.specs.Prelude.{slice_index_or}
use Rattle.literals.specs.Signed.{Signed}
use Rattle.theory_combine.specs.Last.{HoldsWhereEmpty}
use Rattle.theory_combine.proofs.untrue.first_untrue.Given as goal

abbrev pub invariant-loop-k : goal.invariant-loop-k
invariant-loop-k l = (j : ℕ) (d : Signed) → j < l.k → HoldsWhereEmpty l.atoms.atoms (slice_index_or l.log j d)
