use Rattle.std.proofs.Common.{subst}
use Rattle.clause_store.specs.Entries.{bare}
use Rattle.clause_store.specs.Watching.{Grows, IsWatching, kept_from}
use Rattle.clause_store.specs.Visits.{Parts}
use Rattle.clause_store.specs.Rested.{Rested}
use Rattle.clause_store.specs.Driving.{DriveGives}
use Rattle.clause_store.proofs.Keeps.{forced-keeps, keeps-both}
use Rattle.clause_store.proofs.Depths.{Rested-grown}
use Rattle.clause_store.proofs.Driving.{drive-false, holds-rested}
use Rattle.clause_store.proofs.run.drive.Goals as goal

pub go_through-requires : goal.go_through-requires
go_through-requires c =
    let f = c.force_all in
    let grows : Grows (kept_from 0 c.args.rows.now.entries) c.args.trail.now.depth c.args.trail.now.steps f.new.trail.steps = f.ensures.grows c.args.rows.now.entries (rw c.deref.ensures.value c.requires.rested.waiting) in
    let p : Parts = record { entries = c.args.rows.now.entries; lists = bare c.args.lists.now; steps = f.new.trail.steps } in
    let watch : IsWatching f.new.trail.atoms c.args.rows.now.entries (bare c.args.lists.now) = rw f.ensures.same.0 c.requires.watching in
    let rested : Rested c.args.rows.now.entries f.new.trail.steps f.new.trail.depth c.args.start c.args.start c.args.waiting.now.items =
    rw f.ensures.same.1 (Rested-grown (kept_from 0 c.args.rows.now.entries) c.args.rows.now.entries c.args.trail.now.steps f.new.trail.steps c.args.trail.now.depth c.args.start c.args.start c.args.waiting.now.items grows c.requires.rested) in
    record { room = c.requires.room; move_room = c.requires.move_room; holds = holds-rested f.new.trail.atoms f.new.trail.depth p c.args.waiting.now.items c.args.start watch (rw c.deref.ensures.value at c.in-None.ensures.none) rested }

pub returns-in-Some-clause-gives : goal.returns-in-Some-clause-gives
returns-in-Some-clause-gives c =
    drive-false c.args.trail.now.atoms c.args.trail.now.depth c.args.rows.now.entries (bare c.args.lists.now) c.args.trail.now.steps c.force_all.new.trail.steps c.args.waiting.now.items c.args.start c.in-Some.wait
    c.requires.watching (c.force_all.ensures.grows c.args.rows.now.entries (rw c.deref.ensures.value c.requires.rested.waiting)) c.requires.rested (rw c.deref.ensures.value at c.in-Some.ensures.some.0) c.in-Some.ensures.some.1

pub returns-in-None-clause-gives : goal.returns-in-None-clause-gives
returns-in-None-clause-gives c =
    let n = c.go_through.new in
    let p : Parts = record { entries = n.rows.entries; lists = bare n.lists; steps = n.trail.steps } in
    subst (λ a. DriveGives a c.args.trail.now.depth p c.go_through.result.1 n.waiting.items c.go_through.result.0) c.force_all.ensures.same.0
    (subst (λ d. DriveGives c.force_all.new.trail.atoms d p c.go_through.result.1 n.waiting.items c.go_through.result.0) c.force_all.ensures.same.1 c.go_through.ensures.gives)

pub returns-in-None-clause-keeps : goal.returns-in-None-clause-keeps
returns-in-None-clause-keeps c = keeps-both _ _ _ _ _ _ _ _ _ (forced-keeps c.args.rows.now c.args.lists.now c.args.trail.now c.force_all.new.trail (c.force_all.ensures.grows c.args.rows.now.entries (rw c.deref.ensures.value c.requires.rested.waiting)) c.force_all.ensures.same) c.go_through.ensures.keeps

pub returns-in-Some-clause-keeps : goal.returns-in-Some-clause-keeps
returns-in-Some-clause-keeps c = forced-keeps c.args.rows.now c.args.lists.now c.args.trail.now c.force_all.new.trail (c.force_all.ensures.grows c.args.rows.now.entries (rw c.deref.ensures.value c.requires.rested.waiting)) c.force_all.ensures.same
