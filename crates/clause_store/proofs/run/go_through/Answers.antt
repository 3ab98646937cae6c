use Rattle.std.proofs.Common.{◌≡◌, ◌≤◌, length, take, drop, ap, subst, sym, ◌∙◌, arith}
use Rattle.clause_store.specs.Entries.{bare, rooms}
use Rattle.clause_store.specs.Room.{HasRoomToMove}
use Rattle.clause_store.proofs.Rooms.{moves_shaped}
use Rattle.std.proofs.lemmas.List.{take-append-le}
use Rattle.clause_store.specs.Watching.{Grows, kept_from}
use Rattle.clause_store.specs.Visits.{Parts}
use Rattle.clause_store.specs.Looks.{LooksBy}
use Rattle.clause_store.specs.Runs.{RunGives}
use Rattle.clause_store.specs.Late.{CatchLooks, CatchGives}
use Rattle.clause_store.specs.declared.run.Reached.TheVariants.{Fixpoint, False as FalseReached}
use Rattle.clause_store.proofs.Keeps.{grows-on, keeps-both}
use Rattle.clause_store.proofs.Driving.{drive-run, drives-holds}
use Rattle.clause_store.proofs.Pairs.{LooksBy-join}
use Rattle.clause_store.proofs.run.go_through.Goals as goal

pub returns-in-Fixpoint-clause-gives : goal.returns-in-Fixpoint-clause-gives
returns-in-Fixpoint-clause-gives c =
    let m = c.catch_up-caught.new in
    let n = c.run-reached.new in
    let p : Parts = record { entries = m.rows.entries; lists = bare m.lists; steps = m.trail.steps } in
    let p' : Parts = record { entries = n.rows.entries; lists = bare n.lists; steps = n.trail.steps } in
    let grows : Grows (kept_from 0 m.rows.entries) c.args.trail.now.depth m.trail.steps n.trail.steps = grows-on _ _ _ _ _ _ _ _ _ c.catch_up-caught.ensures.keeps c.run-reached.ensures.keeps in
    let gives : RunGives c.args.trail.now.atoms p p' c.catch_up-caught.result.1 c.run-reached.result.1 c.run-reached.result.0 = subst (λ a. RunGives a p p' c.catch_up-caught.result.1 c.run-reached.result.1 c.run-reached.result.0) c.catch_up-caught.ensures.keeps.atoms c.run-reached.ensures.gives in
    let caught : CatchGives c.args.trail.now.atoms c.args.trail.now.depth c.catch_up-caught.result.1 p m.waiting.items Fixpoint = subst (CatchGives c.args.trail.now.atoms c.args.trail.now.depth c.catch_up-caught.result.1 p m.waiting.items) c.in-Fixpoint.is c.catch_up-caught.ensures.gives in
    drive-run c.args.trail.now.atoms c.args.trail.now.depth p p' m.waiting.items c.catch_up-caught.result.1 c.run-reached.result.1 c.run-reached.result.0 grows caught.0 caught.1 gives

pub returns-in-Fixpoint-clause-looks : goal.returns-in-Fixpoint-clause-looks
returns-in-Fixpoint-clause-looks c =
    let m = c.catch_up-caught.new in
    let n = c.run-reached.new in
    let head = c.catch_up-caught.result.1 in
    let p : Parts = record { entries = m.rows.entries; lists = bare m.lists; steps = m.trail.steps } in
    let caught : CatchGives c.args.trail.now.atoms c.args.trail.now.depth head p m.waiting.items Fixpoint = subst (CatchGives c.args.trail.now.atoms c.args.trail.now.depth head p m.waiting.items) c.in-Fixpoint.is c.catch_up-caught.ensures.gives in
    let looks : CatchLooks c.args.start head m.trail.steps (kept_from 0 c.args.rows.now.entries) c.args.rows.now.looks m.rows.looks Fixpoint = subst (CatchLooks c.args.start head m.trail.steps (kept_from 0 c.args.rows.now.entries) c.args.rows.now.looks m.rows.looks) c.in-Fixpoint.is c.catch_up-caught.ensures.looks in
    let within : head ≤ length m.trail.steps = caught.0.within in
    let g = c.run-reached.ensures.keeps.grows in
    let front : take head n.trail.steps ≡ take head m.trail.steps = ap (λ xs. take head xs) g.gains ∙ take-append-le head m.trail.steps g.added within in
    LooksBy-join (kept_from 0 c.args.rows.now.entries) n.trail.steps c.args.start head c.args.rows.now.looks m.rows.looks n.rows.looks c.steps-steps.ensures.fresh looks.0
    (subst (λ xs. LooksBy (drop c.args.start xs) (kept_from 0 c.args.rows.now.entries) c.args.rows.now.looks m.rows.looks) (sym front) looks.1)
    (subst (λ cs. LooksBy (drop head n.trail.steps) cs m.rows.looks n.rows.looks) c.catch_up-caught.ensures.keeps.clauses c.run-reached.ensures.looks)

pub returns-in-False-clause-gives : goal.returns-in-False-clause-gives
returns-in-False-clause-gives c =
    let m = c.catch_up-caught.new in
    let p : Parts = record { entries = m.rows.entries; lists = bare m.lists; steps = m.trail.steps } in
    let caught : CatchGives c.args.trail.now.atoms c.args.trail.now.depth c.catch_up-caught.result.1 p m.waiting.items (FalseReached c.in-False.row) =
    subst (CatchGives c.args.trail.now.atoms c.args.trail.now.depth c.catch_up-caught.result.1 p m.waiting.items) c.in-False.is c.catch_up-caught.ensures.gives in
    (drives-holds c.args.trail.now.atoms c.args.trail.now.depth p m.waiting.items c.catch_up-caught.result.1 caught.0, caught.1)

pub run-reached-requires-clause-move_room : goal.run-reached-requires-clause-move_room
run-reached-requires-clause-move_room c =
    subst (HasRoomToMove c.catch_up-caught.new.rows.entries) (sym c.catch_up-caught.ensures.keeps.rooms) (moves_shaped c.args.rows.now.entries c.catch_up-caught.new.rows.entries (rooms c.args.lists.now) c.catch_up-caught.ensures.keeps.shape c.requires.move_room)

pub returns-in-Fixpoint-clause-room : goal.returns-in-Fixpoint-clause-room
returns-in-Fixpoint-clause-room c = record { apart = c.catch_up-caught.ensures.room.apart; room = omega (arith, c.catch_up-caught.ensures.room.room, c.run-reached.ensures.keeps.count) }

pub returns-in-Fixpoint-clause-keeps : goal.returns-in-Fixpoint-clause-keeps
returns-in-Fixpoint-clause-keeps c = keeps-both _ _ _ _ _ _ _ _ _ c.catch_up-caught.ensures.keeps c.run-reached.ensures.keeps
