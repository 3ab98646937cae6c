use Rattle.std.proofs.Common.{◌≡◌, All, Contains, take}
use Rattle.clause_store.specs.Stored.{Kept}
use Rattle.search_port.specs.State.{Reading}
use Rattle.first_clauses.specs.PartClausesFirst.{HasClause, IsBegun, IsClause}
use Rattle.first_clauses.proofs.storing.keep_all.Given as goal

abbrev pub invariant-loop-i : goal.invariant-loop-i
invariant-loop-i l = record {
  atoms : l.store.trail.atoms ≡ l.fn.store.trail.atoms;
  begun : (q : Reading) → IsBegun q l.fn.store → All (IsClause q 0) l.clauses → IsBegun q l.store;
  stay : (c : Kept) → Contains l.fn.store.clauses c → Contains l.store.clauses c;
  has : All (HasClause l.store.clauses) (take l.i l.clauses);
}
