use Rattle.std.proofs.Common.{◌≡◌, ℕ, ◌<◌, false, get_or}
use Rattle.fraction128.specs.declared.Entry.{Entry}
use Rattle.fraction128.specs.Grid.{helps}
use Rattle.simplex_steps.specs.State.{column_in}
use Rattle.simplex_steps.proofs.find.first_helping.Given as goal

abbrev pub invariant-loop-i : goal.invariant-loop-i
invariant-loop-i l = (k : ℕ) (d : Entry) → k < l.i → helps l.rises (get_or l.entries k d).coefficient (column_in l.columns (get_or l.entries k d).variable) ≡ false
