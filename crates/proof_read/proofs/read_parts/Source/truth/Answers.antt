use Rattle.proof_read.proofs.ReadAtomForms.{reads_truth}
use Rattle.proof_read.proofs.read_parts.Source.truth.Goals as goal

pub returns : goal.returns
returns c = reads_truth _ _ _ _ _ c.in_ok-term.ensures c.alone.ensures
