use Rattle.std.proofs.Common.{◌≡◌, ℕ, ◌<◌, false, length, take, get_or, Contains}
use Rattle.tableau.specs.declared.rows.Row.{Row}
use Rattle.tableau.specs.Staged.{IsCommitted}
use Rattle.tableau.proofs.rows.commit_rows.Given as goal

abbrev pub invariant-loop-here : goal.invariant-loop-here
invariant-loop-here l = record {
  made : (k : ℕ) (d : Row) → k < length l.rows → Contains (take l.here-index l.list) k → IsCommitted (get_or l.fn.rows k d) (get_or l.rows k d) × ((get_or l.rows k d).changes ≡ false);
  others : (k : ℕ) (d : Row) → (Contains (take l.here-index l.list) k → ⊥) → get_or l.rows k d ≡ get_or l.fn.rows k d;
}
