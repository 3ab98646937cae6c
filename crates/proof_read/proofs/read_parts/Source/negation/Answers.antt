use Rattle.std.proofs.Common.{sym}
use Rattle.proof_read.proofs.ReadAtomForms.{fills_negation}
use Rattle.proof_read.proofs.read_parts.Source.negation.Goals as goal

pub returns-then-is_end : goal.returns-then-is_end
returns-then-is_end c = fills_negation _ _ _ _ (rw c.in-Some.is at c.in_ok-atom.ensures) (sym c.if-is_end.ensures)
