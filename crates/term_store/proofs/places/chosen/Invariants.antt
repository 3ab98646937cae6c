use Rattle.std.proofs.Common.{◌≡◌, map, take, slice_index_or}
use Rattle.term_store.proofs.places.chosen.Given as goal

abbrev pub invariant-loop-place : goal.invariant-loop-place
invariant-loop-place g l = (d : _) → l.found.items ≡ map (λ i. slice_index_or l.items i d) (take l.place-index l.places)
