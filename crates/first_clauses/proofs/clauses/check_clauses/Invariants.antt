use Rattle.first_clauses.proofs.clauses.check_clauses.Given as goal

abbrev pub ghosts-check_clauses_from : goal.ghosts-check_clauses_from
ghosts-check_clauses_from a = record { name = a.blank.name; parts = a.blank.parts }
