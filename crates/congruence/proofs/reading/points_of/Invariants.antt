use Rattle.std.proofs.Common.{◌≡◌, ◌++◌, map, take}
use Rattle.congruence.specs.Reading.{point_number}
use Rattle.congruence.proofs.reading.points_of.Given as goal

abbrev pub invariant-loop-term : goal.invariant-loop-term
invariant-loop-term l = l.points.items ≡ l.fn.points.items ++ map point_number (take l.term-index l.terms)
