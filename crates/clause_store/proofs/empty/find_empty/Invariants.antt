use Rattle.std.proofs.Common.{ℕ, ◌<◌}
use Rattle.clause_store.specs.Empties.{IsEmptyAt}
use Rattle.clause_store.proofs.empty.find_empty.Given as goal

abbrev pub invariant-loop-i : goal.invariant-loop-i
invariant-loop-i l = (k : ℕ) → k < l.i → IsEmptyAt l.rows.entries k → ⊥
