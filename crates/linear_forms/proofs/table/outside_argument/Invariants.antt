use Rattle.std.proofs.Common.{◌≡◌, ℕ, ◌<◌, None, slice_index}
use Rattle.linear_forms.specs.Table.{known_at}
use Rattle.linear_forms.specs.Entries.{knowns}
use Rattle.linear_forms.proofs.table.outside_argument.Given as goal

abbrev pub invariant-loop-place : goal.invariant-loop-place
invariant-loop-place l = (k : ℕ) → k < l.place-index → (known_at (knowns l.all l.entries) (slice_index l.arguments k)).outside ≡ None
