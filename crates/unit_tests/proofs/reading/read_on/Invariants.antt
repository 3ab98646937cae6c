use Rattle.std.proofs.Common.{◌≡◌, ◌+◌, length}
use Rattle.unit_tests.proofs.reading.read_on.Given as goal

abbrev pub invariant-loop : goal.invariant-loop
invariant-loop l = (l.reader.finished ≡ l.initial.reader.finished) × (l.reader.place + length l.reader.bytes ≡ l.initial.reader.place + length l.initial.reader.bytes)
