use Rattle.first_clauses.specs.PartClausesFirst.{IsBegun}
use Rattle.first_clauses.specs.CheckClausesFirst.{reading_of}
use Rattle.first_clauses.proofs.triangles.keep_triangles.Given as goal

abbrev pub invariant-loop-triangle : goal.invariant-loop-triangle
invariant-loop-triangle l = IsBegun (reading_of l.stack l.atoms.atoms) l.store
