use Rattle.std.proofs.Common.{◌≡◌, drop}
use Rattle.smt_meaning.specs.Sorts.{decimal}
use Rattle.proof_read.specs.ReadSums.{are_rising, are_above}
use Rattle.proof_read.specs.ReadApart.{numbers_of}
use Rattle.proof_read.proofs.read_apart.is_rising.Given as goal

abbrev pub invariant-loop-number : goal.invariant-loop-number
invariant-loop-number l = are_rising (numbers_of l.numbers) ≡ are_above (decimal l.last) (numbers_of (drop l.number-index l.rest))
