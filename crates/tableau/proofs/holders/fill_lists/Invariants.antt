use Rattle.std.proofs.Common.{◌≡◌, ℕ, ◌≤◌, ◌-◌, length}
use Rattle.tableau.specs.Holders.{items_at}
use Rattle.tableau.proofs.holders.fill_lists.Given as goal

abbrev pub invariant-loop-alloc : goal.invariant-loop-alloc
invariant-loop-alloc l =
    ((j : ℕ) → items_at l.holders.items j ≡ items_at l.fn.holders.items j) × (length l.fn.holders.items ≤ length l.holders.items)

abbrev pub decreases-loop-alloc : goal.decreases-loop-alloc
decreases-loop-alloc l = l.count - length l.holders.items
