-- Clauses of bounds by which an open literal follows.
use Rattle.std.specs.Prelude.{◌≡◌, List, [], ◌∷◌, ◌++◌}
use Rattle.literals.specs.Signed.{Signed}
use Rattle.smt_meaning.specs.Declaration.{Declaration}
use Rattle.search_port.specs.State.{TheoryState, IsPressing}
use Rattle.search_port.specs.Calls.{IsLemma, IsConflict}
use Rattle.search_port.specs.declared.budget.Lemma.{Lemma}
use Rattle.congruence.specs.Clauses.{IsToldAtOneLevel}
use Rattle.bound_log.specs.Told.{State}
use Rattle.bound_log.specs.Atoms.{Knows}

-- a conflict of each theory's state that has this literal behind the log
pub record IsTried (s : State) (l : Signed) (c : Lemma) : Type 0 where
  pub conflict : (ds : List Declaration) (t : TheoryState) → Knows t.reading.table s → t.log ≡ s.log ++ l ∷ [] → IsToldAtOneLevel ds t → IsConflict t c

-- a clause of the theory, all of whose literals but at most one are false in each theory's state with this log, and none true
pub record IsImplied (s : State) (c : Lemma) : Type 0 where
  pub lemma : (ds : List Declaration) (t : TheoryState) → Knows t.reading.table s → t.log ≡ s.log → IsToldAtOneLevel ds t → IsLemma t.reading c × IsPressing t.log c.literals
