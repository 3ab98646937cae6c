use Rattle.std.proofs.Common.{◌≡◌, map}
use Rattle.worker.specs.Shown.{unit_of}
use Rattle.worker.proofs.shown.write_units.Given as goal

abbrev pub invariant-loop-unit : goal.invariant-loop-unit
invariant-loop-unit g l = record {
  may_go : (goal.iterator-loop-unit g).can_next l.unit-iterator;
  ends : (goal.iterator-loop-unit g).is_finite l.unit-iterator;
  written : l.written ≡ map (unit_of (g.T.Theory.state l.theory).reading.table l.level) l.yielded;
}
