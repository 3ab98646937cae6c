use Rattle.std.proofs.Common.{◌≡◌, ◌≤◌, ◌+◌, All, take}
use Rattle.literals.specs.Signed.{Signed}
use Rattle.clause_store.specs.Entries.{bare, rooms, room_of}
use Rattle.clause_store.proofs.choose.make_room.Given as goal

abbrev pub invariant-loop-literal : goal.invariant-loop-literal
invariant-loop-literal l = record {
  watches : bare l.lists ≡ bare l.initial.lists;
  grows : (x : Signed) → room_of (rooms l.initial.lists) x ≤ room_of (rooms l.lists) x;
  more : All (λ (x : Signed). room_of (rooms l.initial.lists) x + 1 ≤ room_of (rooms l.lists) x) (take l.literal-index l.literals);
}
