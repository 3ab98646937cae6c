use Rattle.clause_form.proofs.TrueClauses.{met}
use Rattle.clause_form.proofs.node_clauses_are_true.Goals as goal

pub returns : goal.returns
returns c o t xs k d h a respects = met a o t xs respects k d h
