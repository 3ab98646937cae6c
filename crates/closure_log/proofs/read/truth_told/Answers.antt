use Rattle.closure_log.proofs.WholeSteps.{told_one, open_not_given}
use Rattle.closure_log.proofs.read.truth_told.Goals as goal

pub returns-in-Open-clause-none : goal.returns-in-Open-clause-none
returns-in-Open-clause-none c = λ b g. open_not_given c.args.atoms.now.atoms c.args.log.now c.are_apart.ensures c.args.term c.in-Open.field-0 b c.in-Open.ensures g

pub returns-in-Told-clause-one : goal.returns-in-Told-clause-one
returns-in-Told-clause-one c = λ b g. told_one c.args.atoms.now.atoms c.args.log.now c.are_apart.ensures c.args.term c.in-Told.literal b c.requires.consistent c.in-Told.ensures g
