use Rattle.proof_read.proofs.ReadNodeForms.{divided_alone}
use Rattle.proof_read.proofs.read_parts.Source.divided.Goals as goal

pub returns : goal.returns
returns c = divided_alone _ _ _ _ _ _ _ c.in_ok-head.ensures c.in_ok-argument.ensures c.alone.ensures
