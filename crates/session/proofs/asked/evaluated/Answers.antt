use Rattle.std.proofs.Common.{◌∙◌, length}
use Rattle.smt_meaning.specs.Interpretation.{meaning}
use Rattle.smt_meaning.specs.Stack.{signature_of}
use Rattle.session.proofs.Values.{all_within, unfit_so, fit_so, values_so}
use Rattle.session.proofs.asked.evaluated.Goals as goal

pub values-requires : goal.values-requires
values-requires c =
    let same = c.terms.ensures.trees in
    all_within (length c.args.stack.now.trees) (length c.terms.result.now.trees) c.args.asked.now c.as_slice.result.now (rw same)
    (c.as_slice.ensures.value ∙ c.in_ok-ids.ensures) c.requires

pub returns-in-Err-clause-cause : goal.returns-in-Err-clause-cause
returns-in-Err-clause-cause c =
    unfit_so (meaning c.args.model.now) c.args.stack.now.trees c.terms.result.now.trees c.args.asked.now c.as_slice.result.now c.in-Err.error
    c.terms.ensures.trees (c.as_slice.ensures.value ∙ c.in_ok-ids.ensures) c.in-Err.ensures.cause

pub returns-in-Ok-term_values-clause-fits : goal.returns-in-Ok-term_values-clause-fits
returns-in-Ok-term_values-clause-fits c =
    fit_so (meaning c.args.model.now) c.args.stack.now.trees c.terms.result.now.trees c.args.asked.now c.as_slice.result.now
    c.terms.ensures.trees (c.as_slice.ensures.value ∙ c.in_ok-ids.ensures) c.in-Ok.ensures.fits

pub returns-in-Ok-term_values-clause-values : goal.returns-in-Ok-term_values-clause-values
returns-in-Ok-term_values-clause-values c =
    values_so (signature_of c.args.stack.now.frames) (meaning c.args.model.now) c.args.terms.now c.args.stack.now.trees c.terms.result.now.trees
    c.args.asked.now c.as_slice.result.now c.as_slice-2.result.now c.in-Ok-term_values.values
    c.terms.ensures.trees (c.as_slice.ensures.value ∙ c.in_ok-ids.ensures) (c.as_slice-2.ensures ∙ c.in-Ok.ensures.values) c.in-Ok-term_values.ensures
