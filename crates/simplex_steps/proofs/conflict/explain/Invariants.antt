use Rattle.std.proofs.Common.{◌≡◌, take}
use Rattle.simplex_steps.specs.Conflict.{stops}
use Rattle.simplex_steps.proofs.conflict.explain.Given as goal

abbrev pub invariant-loop-entry : goal.invariant-loop-entry
invariant-loop-entry l = l.bounds.items ≡ stops l.columns l.rises l.basic (take l.entry-index l.entries)
