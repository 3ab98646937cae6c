use Rattle.std.proofs.Common.{◌+◌, ◌*◌, ◌-◌, length}
use Rattle.smt_reader.specs.Scan.{IsScan}
use Rattle.smt_reader.proofs.scan.Scan.find.Given as goal

abbrev pub invariant-loop-turn : goal.invariant-loop-turn
invariant-loop-turn l = IsScan l.bytes l.self

abbrev pub decreases-loop-turn : goal.decreases-loop-turn
decreases-loop-turn l = 2 * length l.bytes - (l.self.looked + length l.self.tokens)
