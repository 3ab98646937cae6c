use Rattle.std.proofs.Common.{◌≡◌, drop, pos}
use Rattle.fraction128.specs.Number.{whole}
use Rattle.fraction128.specs.Grid.{entries_value, entries_value_fits}
use Rattle.simplex_steps.specs.State.{values}
use Rattle.simplex.proofs.state.value_of.Given as goal

abbrev pub invariant-loop-entry : goal.invariant-loop-entry
invariant-loop-entry l =
    (entries_value (values l.columns.items) l.value (drop l.entry-index l.entries.items) ≡ entries_value (values l.columns.items) (whole (pos 0)) l.entries.items)
    × (entries_value_fits (values l.columns.items) l.value (drop l.entry-index l.entries.items) ≡ entries_value_fits (values l.columns.items) (whole (pos 0)) l.entries.items)
