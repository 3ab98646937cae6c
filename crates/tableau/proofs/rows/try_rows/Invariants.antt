use Rattle.std.proofs.Common.{ℕ, ◌<◌, length, take, get_or, Contains}
use Rattle.tableau.specs.declared.rows.Row.{Row}
use Rattle.tableau.specs.Staged.{IsTried, IsSameRow}
use Rattle.tableau.proofs.rows.try_rows.Given as goal

abbrev pub invariant-loop-here : goal.invariant-loop-here
invariant-loop-here l = record {
  same : (k : ℕ) (d : Row) → k < length l.rows → IsSameRow (get_or l.fn.rows k d) (get_or l.rows k d);
  tried : (k : ℕ) (d : Row) → k < length l.rows → Contains (take l.here-index l.list) k → IsTried l.basic l.entering l.form l.place (get_or l.rows k d);
}
