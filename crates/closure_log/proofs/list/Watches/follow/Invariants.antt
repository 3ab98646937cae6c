use Rattle.std.specs.Prelude.{All}
use Rattle.congruence.specs.Implied.{IsPressingLemma}
use Rattle.closure_log.specs.Seen.{state_of}
use Rattle.closure_log.proofs.list.Watches.follow.Given as goal

abbrev pub invariant-loop-turn : goal.invariant-loop-turn
invariant-loop-turn l = All (IsPressingLemma (state_of l.stack l.atoms.atoms l.log)) l.clauses.items
