use Rattle.race_cell.specs.Passes.{claim_of}
use Rattle.worker.proofs.Steps.{won}
use Rattle.worker.proofs.racing.answer.Goals as goal

pub returns-in-Won-clause-outcome : goal.returns-in-Won-clause-outcome
returns-in-Won-clause-outcome g c =
    won c.args.stack.now c.args.settings.now.units (claim_of c.args.pass) (claim_of c.win.new.pass) c.args.answer c.in-Won.ensures.tells.0 c.requires.right
