use Rattle.proof_read.proofs.ReadNodeForms.{fills_application}
use Rattle.proof_read.proofs.read_parts.Source.application.Goals as goal

pub returns : goal.returns
returns c = fills_application _ c.args.symbols.now c.args.name.now _ _ _ _ c.in-Some.ensures (rw c.in-Some-2.is at c.in_ok-arguments.ensures)
