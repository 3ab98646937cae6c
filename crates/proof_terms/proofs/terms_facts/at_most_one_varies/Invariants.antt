use Rattle.std.proofs.Common.{◌≡◌, drop}
use Rattle.proof_terms.specs.TermFacts.{one_varies}
use Rattle.proof_terms.proofs.terms_facts.at_most_one_varies.Given as goal

abbrev pub invariant-loop-place : goal.invariant-loop-place
invariant-loop-place l = one_varies l.arguments ≡ one_varies (drop l.place l.arguments)
