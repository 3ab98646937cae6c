use Rattle.std.proofs.Common.{◌≡◌, All}
use Rattle.congruence.specs.Implied.{IsPressingLemma}
use Rattle.closure_log.specs.Seen.{state_of}
use Rattle.closure_log.proofs.implied.find_implied.Given as goal

abbrev pub invariant-loop-turn : goal.invariant-loop-turn
invariant-loop-turn l = record {
  places : l.scan.places.items ≡ l.initial.scan.places.items;
  found : All (IsPressingLemma (state_of l.stack l.atoms.atoms l.told.log.items)) l.clauses.items;
}
