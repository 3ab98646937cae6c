use Rattle.std.proofs.Common.{arith}
use Rattle.theory_combine.proofs.Going.{went_still}
use Rattle.theory_combine.proofs.step.stays.Goals as goal

pub returns : goal.returns
returns c = went_still c.args.parts.now c.args.progress.now c.args.budget.now c.requires (let r = c.room-spent.ensures in omega arith)
