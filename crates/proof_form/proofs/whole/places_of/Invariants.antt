use Rattle.std.proofs.Common.{◌≡◌, take}
use Rattle.proof_form.proofs.Placing.{places}
use Rattle.proof_form.proofs.whole.places_of.Given as goal

abbrev pub invariant-loop-assertion : goal.invariant-loop-assertion
invariant-loop-assertion l = l.places.items ≡ places (take l.assertion-index l.assertions)
