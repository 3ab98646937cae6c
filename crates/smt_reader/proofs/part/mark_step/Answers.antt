use Rattle.smt_reader.proofs.part.mark_step.Goals as goal
use Rattle.smt_reader.proofs.PartSteps.{mark_adds, mark_ends}

pub returns-then-byte-eq34 : goal.returns-then-byte-eq34
returns-then-byte-eq34 c = mark_adds c.args.byte c.if-byte-eq34.true

pub returns-else-byte-eq34 : goal.returns-else-byte-eq34
returns-else-byte-eq34 c = mark_ends c.args.byte c.if-byte-eq34.false
