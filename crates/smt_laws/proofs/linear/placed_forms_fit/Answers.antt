use Rattle.smt_laws.proofs.FormsLaw.{placed_form_fits}
use Rattle.smt_laws.proofs.linear.placed_forms_fit.Goals as goal

pub returns : goal.returns
returns c = placed_form_fits
