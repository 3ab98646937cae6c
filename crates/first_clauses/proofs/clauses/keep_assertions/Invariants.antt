use Rattle.std.proofs.Common.{take, All, Contains}
use Rattle.clause_store.specs.Stored.{Kept}
use Rattle.smt_meaning.specs.Term.{tree_at}
use Rattle.scope_stack.specs.declared.answers.Assertion.{Assertion}
use Rattle.first_clauses.specs.PartClausesFirst.{IsBegun, IsAsserted}
use Rattle.first_clauses.specs.CheckClausesFirst.{reading_of}
use Rattle.first_clauses.proofs.clauses.keep_assertions.Given as goal

abbrev pub invariant-loop-assertion : goal.invariant-loop-assertion
invariant-loop-assertion l = record {
  begun : IsBegun (reading_of l.stack l.atoms.atoms) l.store;
  stay : (c : Kept) → Contains l.fn.store.clauses c → Contains l.store.clauses c;
  has : All (λ (a : Assertion). IsAsserted l.stack.trees l.atoms.atoms l.store.clauses (tree_at l.stack.trees a.term)) (take l.assertion-index l.assertions);
}
