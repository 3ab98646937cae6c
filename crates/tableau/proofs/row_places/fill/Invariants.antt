use Rattle.std.proofs.Common.{◌≡◌, ℕ, ◌≤◌, ◌-◌, length}
use Rattle.tableau.specs.Places.{placed}
use Rattle.tableau.proofs.row_places.fill.Given as goal

abbrev pub invariant-loop-places : goal.invariant-loop-places
invariant-loop-places l =
    ((i : ℕ) → placed l.places.items i ≡ placed l.initial.places.items i)
    × (length l.initial.places.items ≤ length l.places.items) × (length l.places.items ≤ l.count)

abbrev pub decreases-loop-places : goal.decreases-loop-places
decreases-loop-places l = l.count - length l.places.items
