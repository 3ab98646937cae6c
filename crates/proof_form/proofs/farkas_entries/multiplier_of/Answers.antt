use Rattle.std.proofs.Common.{pos}
use Rattle.fraction128.proofs.Integers.{same_bits}
use Rattle.proof_form.proofs.FarkasNumbers.{lowest_found}
use Rattle.proof_form.proofs.farkas_entries.multiplier_of.Goals as goal

pub returns : goal.returns
returns c =
    lowest_found c.args.numerator c.args.denominator _ c.requires.numerator_in c.requires.above c.requires.denominator_in c.new.ensures.lowest
    (rw (same_bits (pos c.args.numerator) c.requires.numerator_in, same_bits (pos c.args.denominator) c.requires.denominator_in) at c.new.ensures.value)
