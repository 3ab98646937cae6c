use Rattle.std.proofs.Common.{rules}
use Rattle.proof_read.proofs.ReadNodeForms.{divisor_alone}
use Rattle.proof_read.proofs.read_parts.Source.divisor_digits.Goals as goal

pub returns : goal.returns
returns c = divisor_alone _ _ _ _ _ _ _ _ _ c.in_ok-word.ensures c.in_ok-name.ensures c.in_ok-digits.ensures (search rules) (search rules) c.alone.ensures
