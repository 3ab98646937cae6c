use Rattle.std.proofs.Common.{nat_eq}
use Rattle.std.specs.HashMap.{get}
use Rattle.proof_terms.specs.FormPairs.{AreFirstPlaces}
use Rattle.proof_terms.proofs.form_pairs.first_places.Given as goal

abbrev pub invariant-loop-place : goal.invariant-loop-place
invariant-loop-place l = AreFirstPlaces l.terms l.place (get nat_eq l.found.place_of) l.found.places.items
