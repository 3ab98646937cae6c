use Rattle.std.proofs.Common.{◌≡◌, ◌<◌, ◌^◌, drop}
use Rattle.smt_meaning.specs.Sorts.{decimal, decimal_from}
use Rattle.elaborate.proofs.numeral.number.Given as goal

abbrev pub invariant-loop-digit : goal.invariant-loop-digit
invariant-loop-digit l = (l.number < 2 ^ 127) × (decimal l.digits ≡ decimal_from l.number (drop l.digit-index l.digits))
