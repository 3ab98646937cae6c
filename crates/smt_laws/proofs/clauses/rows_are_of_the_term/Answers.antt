use Rattle.std.proofs.Common.{ℕ}
use Rattle.smt_meaning.specs.Term.{Tree}
use Rattle.smt_laws.proofs.RowLaw.{rows_of_term}
use Rattle.smt_laws.proofs.clauses.rows_are_of_the_term.Goals as goal

pub returns-clause-trees : goal.returns-clause-trees
returns-clause-trees c = rows_of_term Tree

pub returns-clause-places : goal.returns-clause-places
returns-clause-places c = rows_of_term ℕ
