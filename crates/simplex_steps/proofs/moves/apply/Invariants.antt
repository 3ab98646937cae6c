use Rattle.std.proofs.Common.{◌≡◌, drop, length}
use Rattle.simplex_steps.specs.Moved.{applied}
use Rattle.simplex_steps.proofs.moves.apply.Given as goal

abbrev pub invariant-loop-change : goal.invariant-loop-change
invariant-loop-change l = (applied (drop l.change-index l.moved) l.columns ≡ applied l.moved l.fn.columns) × (length l.columns ≡ length l.fn.columns)
