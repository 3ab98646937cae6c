use Rattle.std.proofs.Common.{ℕ, ◌<◌, ◌⊎◌, Contains}
use Rattle.tableau.specs.declared.holders.Change.{Change}
use Rattle.tableau.specs.Rows.{variable_at}
use Rattle.tableau.specs.Staged.{HasVariable}
use Rattle.tableau.proofs.holders.note.Given as goal

abbrev pub invariant-loop-entry : goal.invariant-loop-entry
invariant-loop-entry l = record {
  keeps : (x : Change) → Contains l.fn.changes.items x → Contains l.changes.items x;
  so_far : (i : ℕ) → i < l.entry-index → HasVariable (variable_at l.entries i) l.others ⊎ Contains l.changes.items (let x : Change = record { variable = variable_at l.entries i; place = l.place; gained = l.gained } in x);
}
