use Rattle.std.proofs.Common.{◌≡◌, take}
use Rattle.proof_terms.specs.TermFacts.{facts_at, places_at}
use Rattle.proof_terms.proofs.terms_table.gather.Given as goal

abbrev pub invariant-loop-term : goal.invariant-loop-term
invariant-loop-term l = record {
  places : l.arguments.places.items ≡ places_at l.places (take l.term-index l.terms);
  facts : l.arguments.facts.items ≡ facts_at l.facts (places_at l.places (take l.term-index l.terms));
}
