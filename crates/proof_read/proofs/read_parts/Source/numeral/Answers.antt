use Rattle.std.proofs.Common.{sym}
use Rattle.proof_read.proofs.ReadNodeForms.{reads_numeral}
use Rattle.proof_read.proofs.read_parts.Source.numeral.Goals as goal

pub returns-then-is_end : goal.returns-then-is_end
returns-then-is_end c = reads_numeral c.args.self.now.proof.now c.args.digits.now c.args.at _ (sym c.if-is_end.ensures) c.numeral_node.ensures
