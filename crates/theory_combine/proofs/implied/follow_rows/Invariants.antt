use Rattle.std.proofs.Common.{◌≡◌, All}
use Rattle.congruence.specs.Implied.{IsPressingLemma}
use Rattle.theory_combine.specs.Chained.{KeepsGrid}
use Rattle.closure_log.specs.Seen.{state_of}
use Rattle.theory_combine.specs.Held.{IsHeld}
use Rattle.theory_combine.proofs.implied.follow_rows.Given as goal

abbrev pub invariant-loop-turn : goal.invariant-loop-turn
invariant-loop-turn l = record {
  held : IsHeld l.stack l.atoms.atoms l.held;
  log : l.held.closure.log.items ≡ l.initial.held.closure.log.items;
  variables : KeepsGrid l.initial.held.bounds l.held.bounds;
  found : All (IsPressingLemma (state_of l.stack l.atoms.atoms l.held.closure.log.items)) l.clauses.items;
}
