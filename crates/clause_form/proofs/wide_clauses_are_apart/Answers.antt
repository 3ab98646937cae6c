use Rattle.clause_form.proofs.ApartClauses.{wide_apart}
use Rattle.clause_form.proofs.wide_clauses_are_apart.Goals as goal

pub returns : goal.returns
returns c = wide_apart
