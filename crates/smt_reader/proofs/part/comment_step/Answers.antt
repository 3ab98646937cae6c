use Rattle.smt_reader.proofs.part.comment_step.Goals as goal
use Rattle.smt_reader.proofs.PartSteps.{comment_ends, comment_on}

pub returns-then-byte-eq13 : goal.returns-then-byte-eq13
returns-then-byte-eq13 c = comment_ends c.args.byte c.if-byte-eq13.either

pub returns-else-byte-eq13 : goal.returns-else-byte-eq13
returns-else-byte-eq13 c = comment_on c.args.byte c.if-byte-eq13.false
