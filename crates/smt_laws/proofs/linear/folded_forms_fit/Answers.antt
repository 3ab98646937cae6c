use Rattle.smt_laws.proofs.FormsLaw.{folded_form_fits}
use Rattle.smt_laws.proofs.linear.folded_forms_fit.Goals as goal

pub returns : goal.returns
returns c = folded_form_fits
