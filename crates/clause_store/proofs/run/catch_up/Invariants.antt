use Rattle.std.proofs.Common.{◌-◌, ◌≤◌, vec_capacity}
use Rattle.clause_store.specs.Visits.{Parts}
use Rattle.clause_store.specs.Entries.{bare}
use Rattle.clause_store.specs.Late.{LateHolds}
use Rattle.clause_store.specs.Runs.{KeepsStore}
use Rattle.clause_store.specs.Room.{HasRoomToWait}
use Rattle.clause_store.proofs.Pairs.{Looked}
use Rattle.clause_store.proofs.run.catch_up.Given as goal

abbrev pub invariant-steps : goal.invariant-steps
invariant-steps l =
    let now : Parts = record { entries = l.rows.entries; lists = bare l.lists; steps = l.trail.steps } in
    record {
      holds : LateHolds l.initial.trail.atoms l.initial.trail.depth now l.waiting.items l.head;
      keeps : KeepsStore l.initial.rows l.rows l.initial.lists l.lists l.initial.trail l.trail;
      room : HasRoomToWait l.rows.entries l.waiting.items (vec_capacity l.waiting);
      from : l.start ≤ l.head;
      looked : Looked l.initial.rows.entries l.trail.steps l.start l.head l.initial.rows.looks l.rows.looks;
    }

abbrev pub decreases-steps : goal.decreases-steps
decreases-steps l = l.trail.atoms - l.head
