use Rattle.std.proofs.Common.{All}
use Rattle.congruence.specs.Implied.{IsPressingLemma}
use Rattle.closure_log.specs.Seen.{state_of}
use Rattle.theory_combine.proofs.cycles.add_shown.Given as goal

abbrev pub invariant-loop-found : goal.invariant-loop-found
invariant-loop-found l =
    All (IsPressingLemma (state_of l.stack l.atoms.atoms l.held.closure.log.items)) l.initial.clauses.items → All (IsPressingLemma (state_of l.stack l.atoms.atoms l.held.closure.log.items)) l.clauses.items
