use Rattle.std.proofs.Common.{◌≡◌, ◌≤◌, length, take}
use Rattle.race_model.specs.Race.{entries_below}
use Rattle.race_model.proofs.state.kept_of.Given as goal

abbrev pub invariant-loop-entry : goal.invariant-loop-entry
invariant-loop-entry l = record {
  counted : l.kept ≡ length (entries_below l.count (take l.entry-index l.entries));
  few : l.kept ≤ l.entry-index;
}
