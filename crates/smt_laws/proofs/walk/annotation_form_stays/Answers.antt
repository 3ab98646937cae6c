use Rattle.smt_laws.proofs.FormLemmas.{annotation_form_stays}
use Rattle.smt_laws.proofs.walk.annotation_form_stays.Goals as goal

pub returns : goal.returns
returns c = annotation_form_stays
