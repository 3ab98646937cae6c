use Rattle.std.proofs.Common.{◌≡◌, ◌+◌, ◌≤◌, ◌++◌}
use Rattle.race_cell.specs.Actions.{numbers_from}
use Rattle.race_cell.proofs.race.Race.end.Given as goal

abbrev pub invariant-loop-worker : goal.invariant-loop-worker
invariant-loop-worker g l = record {
  same : (g.S.Shelf.state l.shelf).entries ≡ (g.S.Shelf.state l.initial.shelf).entries;
  base : (g.S.Shelf.state l.shelf).base ≡ (g.S.Shelf.state l.initial.shelf).base;
  global : (g.S.Shelf.state l.shelf).global ≡ (g.S.Shelf.state l.initial.shelf).global;
  more : (g.S.Shelf.state l.shelf).ended ≡ (g.S.Shelf.state l.initial.shelf).ended ++ numbers_from 0 l.worker;
  room : l.workers ≤ (g.S.Shelf.state l.shelf).room + l.worker;
}
