use Rattle.std.proofs.Common.{◌≡◌, ◌<◌, ◌^◌, drop}
use Rattle.smt_meaning.specs.Sorts.{decimal, decimal_from}
use Rattle.proof_read.proofs.read_numbers.short_decimal.Given as goal

abbrev pub invariant-loop-digit : goal.invariant-loop-digit
invariant-loop-digit l = (decimal_from l.number (drop l.digit-index l.digits) ≡ decimal l.digits) × (l.number < 2 ^ 64)
