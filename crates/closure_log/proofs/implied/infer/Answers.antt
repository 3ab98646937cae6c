use Rattle.closure_log.specs.Seen.{state_of}
use Rattle.closure_log.proofs.implied.infer.Goals as goal

pub returns-in-Ok-clause-found : goal.returns-in-Ok-clause-found
returns-in-Ok-clause-found c = λ b d. c.inferred.ensures (state_of c.args.stack.now c.args.atoms.now.atoms c.args.told.now.log.items) b d c.in-Ok.ensures.found
