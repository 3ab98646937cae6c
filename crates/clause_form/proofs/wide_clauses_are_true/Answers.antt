use Rattle.clause_form.proofs.WideTrue.{wide_met}
use Rattle.clause_form.proofs.wide_clauses_are_true.Goals as goal

pub returns : goal.returns
returns c o t xs k d h a respects = wide_met a o t xs respects k d h
