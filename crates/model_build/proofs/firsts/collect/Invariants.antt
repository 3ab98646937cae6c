use Rattle.std.proofs.Common.{◌≡◌, map}
use Rattle.model_build.specs.Keys.{hash_at, AreFirst}
use Rattle.model_build.proofs.firsts.collect.Given as goal

abbrev pub invariant-loop-place : goal.invariant-loop-place
invariant-loop-place l = record {
  first : AreFirst l.store.trees l.given l.place l.firsts.places.items;
  hashed : l.firsts.keys ≡ map (hash_at l.store.trees l.given) l.firsts.places.items;
}
