use Rattle.proof_read.proofs.ReadNodeForms.{fills_divisibility}
use Rattle.proof_read.proofs.read_parts.Source.divisibility.Goals as goal

pub returns : goal.returns
returns c = fills_divisibility _ _ _ _ _ _ c.in-Some.ensures c.in_ok-with_one.ensures
