use Rattle.smt_laws.proofs.FormLemmas.{let_form_is_read}
use Rattle.smt_laws.proofs.walk.let_form_is_read.Goals as goal

pub returns : goal.returns
returns c = let_form_is_read
