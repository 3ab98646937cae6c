use Rattle.std.proofs.Common.{All}
use Rattle.congruence.specs.Implied.{IsPressingLemma}
use Rattle.closure_log.specs.Seen.{state_of}
use Rattle.theory_combine.specs.Kept.{KeepsHeld}
use Rattle.theory_combine.proofs.cycles.follow_paths.Given as goal

abbrev pub invariant-loop-turn : goal.invariant-loop-turn
invariant-loop-turn l = record {
  keeps : KeepsHeld l.stack l.atoms.atoms l.initial.held l.held;
  found : All (IsPressingLemma (state_of l.stack l.atoms.atoms l.held.closure.log.items)) l.clauses.items;
}
