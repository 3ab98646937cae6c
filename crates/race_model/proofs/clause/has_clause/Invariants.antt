use Rattle.std.proofs.Common.{◌≢◌, ◌≤◌, length, ◌-◌, ℕ, ◌<◌}
use Rattle.std.specs.Prelude.{slice_index_or}
use Rattle.smt_meaning.specs.declared.clauses.Clause.{Clause}
use Rattle.race_model.proofs.clause.has_clause.Given as goal

abbrev pub invariant-loop-i : goal.invariant-loop-i
invariant-loop-i l = record {
  within : l.i ≤ length l.clauses;
  other : (k : ℕ) (d : Clause) → k < l.i → slice_index_or l.clauses k d ≢ l.clause;
}

abbrev pub decreases-loop-i : goal.decreases-loop-i
decreases-loop-i l = length l.clauses - l.i
