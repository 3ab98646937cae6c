use Rattle.proof_terms.proofs.ClausesPlaces.{clause_ascends, clause_row}
use Rattle.proof_terms.proofs.clauses_laid.clause_at.Goals as goal

pub returns-clause-clause : goal.returns-clause-clause
returns-clause-clause c = clause_row c.args.rows.now c.args.number c.numbers.result.now c.requires.number c.numbers.ensures

pub returns-clause-ascending : goal.returns-clause-ascending
returns-clause-ascending c = clause_ascends c.args.rows.now c.args.number c.numbers.result.now c.requires.ascend c.requires.number c.numbers.ensures
