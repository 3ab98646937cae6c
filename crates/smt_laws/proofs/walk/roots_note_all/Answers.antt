use Rattle.smt_laws.proofs.AgainLemmas.{roots_note_all}
use Rattle.smt_laws.proofs.walk.roots_note_all.Goals as goal

pub returns : goal.returns
returns c = roots_note_all
