use Rattle.closure_log.proofs.Growing.{stays_told}
use Rattle.closure_log.proofs.laws.what_was_told_stays.Goals as goal

pub returns : goal.returns
returns c = stays_told
