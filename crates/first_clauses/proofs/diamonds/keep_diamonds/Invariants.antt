use Rattle.first_clauses.specs.PartClausesFirst.{IsBegun}
use Rattle.first_clauses.specs.CheckClausesFirst.{reading_of}
use Rattle.first_clauses.proofs.diamonds.keep_diamonds.Given as goal

abbrev pub invariant-loop-number : goal.invariant-loop-number
invariant-loop-number l = IsBegun (reading_of l.stack l.atoms.atoms) l.store
