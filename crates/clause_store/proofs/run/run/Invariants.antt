use Rattle.std.proofs.Common.{◌-◌, ◌≤◌, length}
use Rattle.clause_store.specs.Entries.{bare}
use Rattle.clause_store.specs.Runs.{KeepsStore, Runs}
use Rattle.clause_store.specs.Visits.{Parts}
use Rattle.clause_store.proofs.Pairs.{Looked}
use Rattle.clause_store.proofs.run.run.Given as goal

abbrev pub invariant-steps : goal.invariant-steps
invariant-steps l =
    let first : Parts = record { entries = l.initial.rows.entries; lists = bare l.initial.lists; steps = l.initial.trail.steps } in
    let now : Parts = record { entries = l.rows.entries; lists = bare l.lists; steps = l.trail.steps } in
    record {
      runs : Runs l.initial.trail.atoms first now l.start l.head;
      keeps : KeepsStore l.initial.rows l.rows l.initial.lists l.lists l.initial.trail l.trail;
      within : l.head ≤ length l.trail.steps;
      from : l.start ≤ l.head;
      looked : Looked l.initial.rows.entries l.trail.steps l.start l.head l.initial.rows.looks l.rows.looks;
    }

abbrev pub decreases-steps : goal.decreases-steps
decreases-steps l = l.trail.atoms - l.head
