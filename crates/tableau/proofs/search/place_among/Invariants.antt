use Rattle.std.proofs.Common.{ℕ, ◌<◌, ◌≤◌, ◌-◌, length}
use Rattle.tableau.specs.Rows.{variable_at}
use Rattle.tableau.proofs.search.place_among.Given as goal

abbrev pub invariant-loop-low : goal.invariant-loop-low
invariant-loop-low l =
    (l.low ≤ l.high) × (l.high ≤ length l.entries)
    × ((k : ℕ) → k < l.low → variable_at l.entries k < l.variable)
    × ((k : ℕ) → l.high ≤ k → k < length l.entries → l.variable ≤ variable_at l.entries k)

abbrev pub decreases-loop-low : goal.decreases-loop-low
decreases-loop-low l = l.high - l.low
