use Rattle.std.proofs.Common.{ℕ, ◌<◌, length, take, get_or, Contains}
use Rattle.tableau.specs.declared.rows.Row.{Row}
use Rattle.tableau.specs.Holders.{IsNoted}
use Rattle.tableau.proofs.holders.note_rows.Given as goal

abbrev pub invariant-loop-here : goal.invariant-loop-here
invariant-loop-here l = (k : ℕ) (d : Row) → k < length l.rows → Contains (take l.here-index l.list) k → IsNoted l.changes.items k (get_or l.rows k d)
