use Rattle.std.proofs.Common.{refl}
use Rattle.proof_read.specs.Written.{is_small}
use Rattle.proof_read.specs.ReadParts.{any}
use Rattle.proof_read.proofs.ReadNumberLemmas.{takes_below, takes_large, is_below, is_not_below}
use Rattle.proof_read.proofs.read_parts.Source.number.Goals as goal

pub returns-in-Some : goal.returns-in-Some
returns-in-Some c = takes_below _ is_small any _ _ _ _ c.in_ok-digits.ensures (is_below _ _ _ c.in-Some.ensures.0 c.in-Some.ensures.1) refl c.in-Some.ensures.0

pub returns-in-None : goal.returns-in-None
returns-in-None c = takes_large _ is_small _ _ _ c.in_ok-digits.ensures (is_not_below _ _ c.in-None.ensures)
