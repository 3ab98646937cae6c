use Rattle.std.proofs.Common.{◌≡◌, map, take}
use Rattle.simplex.specs.State.{tag_in}
use Rattle.simplex.proofs.state.tags_of.Given as goal

abbrev pub invariant-loop-bound : goal.invariant-loop-bound
invariant-loop-bound l = l.tags.items ≡ map (tag_in l.trail.bounds) (take l.bound-index l.bounds)
