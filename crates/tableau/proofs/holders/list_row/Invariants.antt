use Rattle.std.proofs.Common.{◌≡◌, ℕ, ◌<◌, length, Contains}
use Rattle.tableau.specs.Rows.{variable_at}
use Rattle.tableau.specs.Holders.{items_at}
use Rattle.tableau.proofs.holders.list_row.Given as goal

abbrev pub invariant-loop-entry : goal.invariant-loop-entry
invariant-loop-entry l = record {
  count : length l.holders.items ≡ length l.fn.holders.items;
  keeps : (j k : ℕ) → Contains (items_at l.fn.holders.items j) k → Contains (items_at l.holders.items j) k;
  so_far : (i : ℕ) → i < l.entry-index → variable_at l.entries i < length l.fn.holders.items → Contains (items_at l.holders.items (variable_at l.entries i)) l.place;
}
