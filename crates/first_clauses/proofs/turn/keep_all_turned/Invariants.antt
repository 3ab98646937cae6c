use Rattle.std.proofs.Common.{All, Contains, take}
use Rattle.clause_store.specs.Stored.{Kept}
use Rattle.first_clauses.specs.PartClausesFirst.{IsBegun}
use Rattle.first_clauses.specs.Turned.{IsKeptTurned}
use Rattle.first_clauses.specs.CheckClausesFirst.{reading_of}
use Rattle.first_clauses.proofs.turn.keep_all_turned.Given as goal

abbrev pub invariant-loop-i : goal.invariant-loop-i
invariant-loop-i l = record {
  begun : IsBegun (reading_of l.stack l.atoms.atoms) l.store;
  stay : (c : Kept) → Contains l.fn.store.clauses c → Contains l.store.clauses c;
  has : All (IsKeptTurned l.stack.trees l.atoms.atoms l.store.clauses) (take l.i l.clauses);
}
