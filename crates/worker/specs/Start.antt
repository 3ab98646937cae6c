-- What a search begins with.
use Rattle.std.specs.Prelude.{◌≡◌, List, []}
use Rattle.literals.specs.Signed.{Signed}
use Rattle.clause_store.specs.Stored.{Stored}
use Rattle.smt_meaning.specs.StackCommand.{Stack}
use Rattle.search_port.specs.State.{Reading, TheoryState}
use Rattle.search_port.specs.Pivots.{ArePivots}
use Rattle.cdcl_core.specs.Search.{AreAgreed}
use Rattle.first_clauses.specs.CheckClausesFirst.{reading_of, IsFirst}
use Rattle.worker.specs.Shown.{HasStackAtoms}

-- the stack's first clauses are kept, over all its atoms, and a theory that reads them was told nothing and made no pivot
pub record IsStart (Agrees : Reading → List Signed → Type 0) (s : Stack) (t : TheoryState) (stored : Stored) : Type 0 where
  pub first : IsFirst s t.reading.table stored
  pub all : HasStackAtoms s t.reading.table
  pub reading : t.reading ≡ reading_of s t.reading.table
  pub untold : t.log ≡ []
  pub pivots : ArePivots t []
  pub agreed : AreAgreed Agrees t.reading stored.clauses
