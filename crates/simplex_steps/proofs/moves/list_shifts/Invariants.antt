use Rattle.std.proofs.Common.{◌≡◌, ℕ, ◌<◌, true, length, take, Contains}
use Rattle.tableau.specs.Table.{row_at}
use Rattle.simplex_steps.specs.declared.moves.Moved.{Moved}
use Rattle.simplex_steps.specs.Moved.{shift, shifts, shift_fits}
use Rattle.simplex_steps.proofs.moves.list_shifts.Given as goal

abbrev pub invariant-loop-place : goal.invariant-loop-place
invariant-loop-place l = record {
  only : (m : Moved) → Contains l.moved.items m → Contains (shifts l.columns l.variable l.distance l.tableau.rows) m;
  each : (k : ℕ) → k < length l.tableau.rows → Contains (take l.place-index l.places) k → (m : Moved) → Contains (shift l.columns l.variable l.distance (row_at l.tableau.rows k)) m → Contains l.moved.items m;
  fits : (k : ℕ) → k < length l.tableau.rows → Contains (take l.place-index l.places) k → shift_fits l.columns l.variable l.distance (row_at l.tableau.rows k) ≡ true;
}
