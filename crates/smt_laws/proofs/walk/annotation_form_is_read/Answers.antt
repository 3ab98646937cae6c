use Rattle.smt_laws.proofs.FormLemmas.{annotation_form_is_read}
use Rattle.smt_laws.proofs.walk.annotation_form_is_read.Goals as goal

pub returns : goal.returns
returns c = annotation_form_is_read
