use Rattle.std.proofs.Common.{ℕ, ◌<◌}
use Rattle.std.specs.Prelude.{slice_index_or}
use Rattle.search_port.specs.State.{IsMadeTrue}
use Rattle.search_port.specs.declared.budget.Lemma.{Lemma}
use Rattle.theory_combine.proofs.settled.first_false.Given as goal

abbrev pub invariant-loop-clause : goal.invariant-loop-clause
invariant-loop-clause l = (j : ℕ) (d : Lemma) → j < l.clause-index → IsMadeTrue l.held.closure.log.items (slice_index_or l.clauses j d).literals
