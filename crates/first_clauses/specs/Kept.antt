-- The axioms of the bounds of a table, in a store.
use Rattle.std.specs.Prelude.{List, All}
use Rattle.literals.specs.Signed.{Signed}
use Rattle.clause_store.specs.Stored.{Kept}
use Rattle.smt_meaning.specs.declared.clauses.Atom.{Atom}
use Rattle.order_clauses.specs.Axioms.{AreAxioms}
use Rattle.first_clauses.specs.PartClausesFirst.{HasClause}

-- they are kept
pub record HasAxioms (table : List Atom) (clauses : List Kept) : Type 0 where
  pub axioms : List (List Signed)
  pub are : AreAxioms table axioms
  pub kept : All (HasClause clauses) axioms
