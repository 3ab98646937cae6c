use Rattle.std.proofs.Common.{◌≡◌, map, take}
use Rattle.simplex_steps.specs.State.{member_in}
use Rattle.simplex_steps.proofs.line.members.Given as goal

abbrev pub invariant-loop-entry : goal.invariant-loop-entry
invariant-loop-entry l = l.members.items ≡ map (member_in l.columns) (take l.entry-index l.entries)
