use Rattle.std.proofs.Common.{◌-◌, length}
use Rattle.smt_reader.specs.Parts.{Passes}
use Rattle.smt_reader.proofs.part.Part.run.Given as goal

abbrev pub invariant-loop-byte : goal.invariant-loop-byte
invariant-loop-byte l = Passes l.fn.self l.part l.bytes l.passed

abbrev pub decreases-loop-byte : goal.decreases-loop-byte
decreases-loop-byte l = length l.bytes - l.passed
