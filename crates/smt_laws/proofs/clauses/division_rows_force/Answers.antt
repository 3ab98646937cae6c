use Rattle.smt_laws.proofs.RowLaw.{rows_force, absolute_forced}
use Rattle.smt_laws.proofs.clauses.division_rows_force.Goals as goal

pub returns-clause-trees : goal.returns-clause-trees
returns-clause-trees c value truth = (λ n some. rows_force value truth n some, absolute_forced value truth)

pub returns-clause-places : goal.returns-clause-places
returns-clause-places c value truth = (λ n some. rows_force value truth n some, absolute_forced value truth)

pub returns-clause-numbers : goal.returns-clause-numbers
returns-clause-numbers c value truth = (λ n some. rows_force value truth n some, absolute_forced value truth)
