use Rattle.std.proofs.Common.{◌∙◌}
use Rattle.smt_meaning.specs.Interpretation.{meaning}
use Rattle.model_eval.proofs.KeepLemmas.{values_of}
use Rattle.model_eval.proofs.values_counted.Goals as goal

pub returns-clause-values : goal.returns-clause-values
returns-clause-values g c =
    c.from_vec.ensures ∙ c.in_ok-gather.ensures
    ∙ rw (c.deref.ensures.value, c.deref-2.ensures.value)
    (values_of (meaning c.args.interp.now) c.args.store.now.trees c.args.terms.now c.in_ok-found.found.slots.items c.in_ok-found.found.values.items c.in_ok-found.ensures.kept)
