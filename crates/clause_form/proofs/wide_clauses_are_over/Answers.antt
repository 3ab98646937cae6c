use Rattle.clause_form.proofs.WideOver.{wide_over_contained}
use Rattle.clause_form.proofs.wide_clauses_are_over.Goals as goal

pub returns : goal.returns
returns c = wide_over_contained
