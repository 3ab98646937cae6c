use Rattle.std.proofs.Common.{◌≡◌, take}
use Rattle.std.specs.Prelude.{Some}
use Rattle.proof_terms.specs.TermFacts.{held_of}
use Rattle.proof_terms.proofs.terms_held.collect.Given as goal

abbrev pub invariant-loop-argument : goal.invariant-loop-argument
invariant-loop-argument l = held_of (take l.argument-index l.arguments) ≡ Some l.places.items
