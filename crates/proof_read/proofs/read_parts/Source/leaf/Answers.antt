use Rattle.std.proofs.Common.{refl}
use Rattle.proof_read.proofs.ReadLeafLemmas.{has_leaf}
use Rattle.proof_read.proofs.read_parts.Source.leaf.Goals as goal

pub returns : goal.returns
returns c = has_leaf _ _ _ _ _ _ _ _ c.in_ok-close.ensures.0 c.in_ok-close.ensures.1 c.in_ok-at.ensures refl c.in_ok-digits.ensures
