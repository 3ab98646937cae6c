use Rattle.std.proofs.Common.{◌≡◌, ℕ, List, length, ◌<◌, ap, subst, sym, ◌∙◌, inl, inr}
use Rattle.clause_store.specs.Entries.{bare, rooms, watches_of, room_of}
use Rattle.clause_store.specs.declared.lists.Watch.{Watch}
use Rattle.clause_store.proofs.Sweeping.{watches_of-other}
use Rattle.clause_store.proofs.choose.enlist_both.Goals as goal

pub returns-then-is_same-clause-lists : goal.returns-then-is_same-clause-lists
returns-then-is_same-clause-lists c = inl (c.is_same.ensures.yes c.if-is_same.true, c.enlist.ensures.lists)

pub enlist-requires-2-clause-room : goal.enlist-requires-2-clause-room
enlist-requires-2-clause-room c =
    let old = bare c.args.lists.now in
    let v : Watch = record { blocker = c.args.second; row = c.args.row } in
    let same : watches_of (bare c.enlist.new.lists) c.args.second ≡ watches_of old c.args.second =
    ap (λ xs. watches_of xs c.args.second) c.enlist.ensures.lists ∙ watches_of-other old c.args.first c.args.second _ (λ x. c.is_same.ensures.no c.if-is_same.false (sym x)) in
    subst (λ (rs : List ℕ). length (watches_of (bare c.enlist.new.lists) c.args.second) < room_of rs c.args.second) (sym c.enlist.ensures.rooms)
    (subst (λ (ws : List Watch). length ws < room_of (rooms c.args.lists.now) c.args.second) (sym same) c.requires.second_room)

pub returns-clause-lists : goal.returns-clause-lists
returns-clause-lists c = inr (c.is_same.ensures.no c.if-is_same.false, (bare c.enlist.new.lists, c.enlist.ensures.lists, c.enlist-2.ensures.lists))

pub returns-clause-rooms : goal.returns-clause-rooms
returns-clause-rooms c = c.enlist-2.ensures.rooms ∙ c.enlist.ensures.rooms
