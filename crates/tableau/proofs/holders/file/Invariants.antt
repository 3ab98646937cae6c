use Rattle.std.proofs.Common.{◌≡◌, ◌≢◌, ℕ, ◌<◌, true, length, take, Contains}
use Rattle.tableau.specs.declared.holders.Change.{Change}
use Rattle.tableau.specs.Holders.{items_at}
use Rattle.tableau.proofs.holders.file.Given as goal

abbrev pub invariant-loop-change : goal.invariant-loop-change
invariant-loop-change l = record {
  count : length l.holders.items ≡ length l.fn.holders.items;
  same : items_at l.holders.items l.entering ≡ items_at l.fn.holders.items l.entering;
  keeps : (j k : ℕ) → Contains (items_at l.fn.holders.items j) k → Contains (items_at l.holders.items j) k;
  so_far : (j k : ℕ) → Contains (take l.change-index l.changes) (let x : Change = record { variable = j; place = k; gained = true } in x) → j ≢ l.entering → j < length l.fn.holders.items → Contains (items_at l.holders.items j) k;
}
