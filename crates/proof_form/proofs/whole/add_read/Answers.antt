use Rattle.std.proofs.Common.{arith}
use Rattle.proof_form.proofs.Going.{added_node, no_node}
use Rattle.proof_form.proofs.whole.add_read.Goals as goal

pub returns-in-Some : goal.returns-in-Some
returns-in-Some c = λ ds x same read. added_node x c.args.terms.now c.add.new.self ds c.in-Some.node c.add.result same (rw c.in-Some.is at read) c.add.ensures.term c.add.ensures.other

pub returns-in-None : goal.returns-in-None
returns-in-None c = λ ds x same read. no_node x c.args.terms.now ds same (rw c.in-None.is at read) (omega (arith, c.len-few.ensures.few, c.len-few.ensures.trees))
