use Rattle.std.proofs.Common.{◌≡◌, ◌-◌, ◌≤◌, length}
use Rattle.clause_store.specs.Entries.{bare, rooms}
use Rattle.clause_store.specs.Sweeps.{Sweeps, State}
use Rattle.clause_store.proofs.Counting.{Seen}
use Rattle.clause_store.proofs.sweep.sweep.Given as goal

abbrev pub invariant-watches : goal.invariant-watches
invariant-watches l =
    let first : State = record { entries = l.initial.rows.entries; lists = bare l.initial.lists; steps = l.initial.trail.steps; list = l.initial.list.watches } in
    let now : State = record { entries = l.rows.entries; lists = bare l.lists; steps = l.trail.steps; list = l.list.watches } in
    record {
      sweeps : Sweeps l.initial.trail.atoms l.initial.trail.depth l.f first now l.k;
      atoms : l.trail.atoms ≡ l.initial.trail.atoms;
      depth : l.trail.depth ≡ l.initial.trail.depth;
      rooms : rooms l.lists ≡ rooms l.initial.lists;
      list_room : l.list.room ≡ l.initial.list.room;
      looks : l.initial.rows.looks ≤ l.rows.looks;
      seen : Seen l.f l.initial.rows.entries l.list.watches l.k l.initial.rows.looks l.rows.looks;
    }

abbrev pub decreases-watches : goal.decreases-watches
decreases-watches l = length l.list.watches - l.k
