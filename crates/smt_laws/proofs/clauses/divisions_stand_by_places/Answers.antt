use Rattle.smt_laws.proofs.DivisionLaw.{placed_atoms, placed_fits, placed_clauses, placed_rows_hold}
use Rattle.smt_laws.proofs.clauses.divisions_stand_by_places.Goals as goal

pub returns-clause-atoms : goal.returns-clause-atoms
returns-clause-atoms c = placed_atoms

pub returns-clause-fit : goal.returns-clause-fit
returns-clause-fit c = placed_fits

pub returns-clause-clauses : goal.returns-clause-clauses
returns-clause-clauses c = placed_clauses

pub returns-clause-hold : goal.returns-clause-hold
returns-clause-hold c = placed_rows_hold
