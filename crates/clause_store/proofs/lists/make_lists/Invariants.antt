use Rattle.std.proofs.Common.{◌≡◌, ◌≤◌, ◌-◌, vec_len}
use Rattle.literals.specs.Signed.{Signed}
use Rattle.clause_store.specs.Entries.{watches_of, room_of, bare, rooms}
use Rattle.clause_store.proofs.lists.make_lists.Given as goal

abbrev pub invariant-loop-alloc : goal.invariant-loop-alloc
invariant-loop-alloc l = record {
  same : (x : Signed) → watches_of (bare l.lists.items) x ≡ watches_of (bare l.initial.lists.items) x;
  rooms : (x : Signed) → room_of (rooms l.lists.items) x ≡ room_of (rooms l.initial.lists.items) x;
  more : vec_len l.initial.lists ≤ vec_len l.lists;
}

abbrev pub decreases-loop-alloc : goal.decreases-loop-alloc
decreases-loop-alloc l = l.wanted - vec_len l.lists
