use Rattle.std.proofs.Common.{◌≡◌, length, take}
use Rattle.smt_meaning.specs.Sorts.{with_all}
use Rattle.term_store.specs.Room.{ArePlaces}
use Rattle.term_store.proofs.room.put_all.Given as goal

abbrev pub invariant-loop-id : goal.invariant-loop-id
invariant-loop-id l = record {
  size : length l.places.items ≡ l.id;
  places : ArePlaces l.others.trees l.places.items l.store.trees;
  trees : l.store.trees ≡ with_all l.fn.store.trees (take l.id l.others.trees);
  limit : l.store.limit ≡ l.fn.store.limit;
}
