use Rattle.std.proofs.Common.{◌≡◌}
use Rattle.cdcl_core.specs.Search.{AreKeptSame}
use Rattle.cdcl_core.specs.Turns.{Adds, ChainsPivots}
use Rattle.cdcl_core.proofs.put.add_all.Given as goal

abbrev pub invariant-loop-clause : goal.invariant-loop-clause
invariant-loop-clause g l = record {
  may_go : (goal.iterator-loop-clause g).can_next l.clause-iterator;
  ends : (goal.iterator-loop-clause g).is_finite l.clause-iterator;
  adds : Adds l.initial.store l.store (g.T.Theory.state l.initial.theory) (g.T.Theory.state l.theory) l.initial.budget l.budget;
  reading : (g.T.Theory.state l.theory).reading ≡ (g.T.Theory.state l.initial.theory).reading;
  pivots : ChainsPivots (g.T.Theory.state l.initial.theory) (g.T.Theory.state l.theory) l.initial.budget l.budget;
  kept : AreKeptSame l.store.clauses l.yielded;
}
