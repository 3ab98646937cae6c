use Rattle.smt_laws.proofs.Kept.{journal_sound}
use Rattle.smt_laws.proofs.language.mode_holds.Goals as goal

pub returns : goal.returns
returns c = journal_sound
