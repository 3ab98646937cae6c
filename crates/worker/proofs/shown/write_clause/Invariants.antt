use Rattle.std.proofs.Common.{◌≡◌, ◌++◌, drop, map}
use Rattle.first_clauses.specs.PartClausesFirst.{written_literal}
use Rattle.worker.proofs.shown.write_clause.Given as goal

abbrev pub invariant-loop-literal : goal.invariant-loop-literal
invariant-loop-literal g l = (l.written ++ map (written_literal (g.T.Theory.state l.theory).reading.table) (drop l.literal-index l.literals)) ≡ map (written_literal (g.T.Theory.state l.theory).reading.table) l.literals
