use Rattle.std.proofs.Common.{rules}
use Rattle.proof_read.proofs.ReadAtomForms.{fills_positive}
use Rattle.proof_read.proofs.read_parts.Source.literal_after.Goals as goal

pub returns-in-Some : goal.returns-in-Some
returns-in-Some c = fills_positive _ c.args.name.now _ _ _ (search rules) (rw c.in-Some.is at c.in_ok-atom.ensures)
