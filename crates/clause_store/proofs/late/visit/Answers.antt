use Rattle.std.proofs.Common.{◌≡◌, true, sym, subst, ◌∙◌}
use Rattle.clause_store.specs.Entries.{entry_at, bare, rooms}
use Rattle.clause_store.specs.Stored.{IsFalseOn}
use Rattle.clause_store.specs.Late.{IsPinned}
use Rattle.clause_store.proofs.Rooms.{other_room}
use Rattle.clause_store.specs.Visits.{Parts}
use Rattle.clause_store.proofs.LateLooks.{late-found, late-pinned}
use Rattle.clause_store.proofs.late.visit.Goals as goal

pub returns-in-Found-clause-gives : goal.returns-in-Found-clause-gives
returns-in-Found-clause-gives c =
    let live : (entry_at c.args.rows.now.entries c.args.row).live ≡ true = sym c.is_live.ensures ∙ c.if-not-is_live.false in
    late-found c.args.f c.in-Found.found c.other_of-other.result c.args.row c.args.trail.now.depth c.args.rows.now.entries c.transfer.new.rows.entries (bare c.args.lists.now) (bare c.transfer.new.lists) c.args.trail.now.steps c.args.waiting.now.items
    live c.other_of-other.ensures c.in-Found.ensures.gives (rw c.examine.ensures.same at c.transfer.ensures.entries) c.transfer.ensures.lists

pub returns-in-Pinned-clause-gives : goal.returns-in-Pinned-clause-gives
returns-in-Pinned-clause-gives c =
    let live : (entry_at c.args.rows.now.entries c.args.row).live ≡ true = sym c.is_live.ensures ∙ c.if-not-is_live.false in
    let old : Parts = record { entries = c.args.rows.now.entries; lists = bare c.args.lists.now; steps = c.args.trail.now.steps } in
    let new : Parts = record { entries = c.pin.new.rows.entries; lists = bare c.pin.new.lists; steps = c.pin.new.trail.steps } in
    late-pinned c.args.f c.other_of-other.result c.in-Pinned.second c.args.row c.args.trail.now.depth c.in-Pinned.from old new c.args.waiting.now.items c.pin.new.waiting.items c.pin.result live c.other_of-other.ensures c.in-Pinned.ensures.gives
    (rw c.examine.ensures.same at c.pin.ensures.gives)

pub transfer-requires-clause-room : goal.transfer-requires-clause-room
transfer-requires-clause-room c =
    let live : (entry_at c.args.rows.now.entries c.args.row).live ≡ true = sym c.is_live.ensures ∙ c.if-not-is_live.false in
    let g = c.in-Found.ensures.gives in
    other_room (bare c.args.lists.now) (rooms c.args.lists.now) (entry_at c.args.rows.now.entries c.args.row) c.args.f c.other_of-other.result c.in-Found.found (c.requires.move_room live) c.other_of-other.ensures g.0 g.1
    (λ x. g.2 (subst (IsFalseOn c.args.trail.now.steps) (sym x) c.requires.is_false))

pub pin-requires-clause-move_room : goal.pin-requires-clause-move_room
pin-requires-clause-move_room c = λ not_f.
    let live : (entry_at c.args.rows.now.entries c.args.row).live ≡ true = sym c.is_live.ensures ∙ c.if-not-is_live.false in
    let g : IsPinned c.args.trail.now.steps (entry_at c.args.rows.now.entries c.args.row).literals c.other_of-other.result c.in-Pinned.second c.in-Pinned.from = c.in-Pinned.ensures.gives in
    other_room (bare c.args.lists.now) (rooms c.args.lists.now) (entry_at c.args.rows.now.entries c.args.row) c.args.f c.other_of-other.result c.in-Pinned.second (c.requires.move_room live) c.other_of-other.ensures g.contained g.apart not_f
