use Rattle.std.proofs.Common.{◌∙◌}
use Rattle.std.proofs.lemmas.List.{append-nil}
use Rattle.race_cell.specs.Passes.{claim_of}
use Rattle.worker.proofs.racing.first_turn.Goals as goal

pub returns-clause-claim : goal.returns-clause-claim
returns-clause-claim g c = (c.look.ensures.adds.worker, c.look.ensures.adds.own ∙ append-nil (claim_of c.args.pass.now).own)
