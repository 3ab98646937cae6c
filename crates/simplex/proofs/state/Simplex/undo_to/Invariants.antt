use Rattle.std.proofs.Common.{◌≡◌, length, take}
use Rattle.simplex.specs.State.{KeepsValues}
use Rattle.simplex.proofs.state.Simplex.undo_to.Given as goal

abbrev pub invariant-loop-self : goal.invariant-loop-self
invariant-loop-self l =
    (l.self.table ≡ l.fn.self.table) × KeepsValues l.fn.self.columns l.self.columns × (take l.count l.self.bounds ≡ take l.count l.fn.self.bounds)

abbrev pub decreases-loop-self : goal.decreases-loop-self
decreases-loop-self l = length l.self.bounds
