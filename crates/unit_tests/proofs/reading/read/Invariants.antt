use Rattle.std.proofs.Common.{◌≡◌, ◌≤◌, ◌+◌, ◌-◌, length, false}
use Rattle.unit_tests.proofs.reading.read.Given as goal

abbrev pub invariant-loop-fed : goal.invariant-loop-fed
invariant-loop-fed l = (l.fed ≤ length l.script) × (l.reader.finished ≡ false) × (l.reader.place + length l.reader.bytes ≡ l.fed)

abbrev pub decreases-loop-fed : goal.decreases-loop-fed
decreases-loop-fed l = length l.script - l.fed
