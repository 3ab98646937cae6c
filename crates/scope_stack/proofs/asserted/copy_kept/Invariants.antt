use Rattle.std.proofs.Common.{◌≡◌, take}
use Rattle.smt_meaning.specs.Keeping.{kept_from}
use Rattle.scope_stack.specs.Trials.{marks}
use Rattle.scope_stack.proofs.asserted.copy_kept.Given as goal

abbrev pub invariant-loop-place : goal.invariant-loop-place
invariant-loop-place l = l.copies.items ≡ kept_from (marks l.kept) 0 (take l.place l.assertions)
