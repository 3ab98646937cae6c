use Rattle.closure_log.proofs.Reading.{open_truth}
use Rattle.closure_log.proofs.read.said_of.Goals as goal

pub returns-in-None : goal.returns-in-None
returns-in-None c = open_truth c.args.atoms.now.atoms c.args.log.now c.args.term c.in-Some.number c.new.result c.in-Some.ensures.some c.in-None.ensures.none c.new.ensures
