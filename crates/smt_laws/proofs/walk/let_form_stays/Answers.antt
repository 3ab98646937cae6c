use Rattle.smt_laws.proofs.FormLemmas.{let_form_stays}
use Rattle.smt_laws.proofs.walk.let_form_stays.Goals as goal

pub returns : goal.returns
returns c = let_form_stays
