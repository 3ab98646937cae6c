use Rattle.proof_read.proofs.ReadAtomForms.{reads_same}
use Rattle.proof_read.proofs.read_parts.Source.same.Goals as goal

pub returns : goal.returns
returns c = reads_same _ _ _ _ _ _ _ c.in_ok-left.ensures c.in_ok-right.ensures c.alone.ensures
