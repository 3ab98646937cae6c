use Rattle.std.proofs.Common.{get_or, refl}
use Rattle.clause_store.specs.Entries.{Listing}
use Rattle.clause_store.proofs.Rooms.{IsListOf, list_watches, list_grows, list_more}
use Rattle.clause_store.proofs.choose.make_room_at.Goals as goal

pub returns-clause-watches : goal.returns-clause-watches
returns-clause-watches c =
    let d : Listing = c.index-lists-code.result in
    let x : Listing = get_or c.args.lists.now c.code.result d in
    let h : IsListOf c.args.lists.now c.args.literal c.code.result x d = record { code_is = c.code.ensures; within = c.requires; is = refl } in
    list_watches c.args.lists.now c.args.literal c.code.result x d c.make_room.new.self h c.make_room.ensures.watches

pub returns-clause-grows : goal.returns-clause-grows
returns-clause-grows c =
    let d : Listing = c.index-lists-code.result in
    let x : Listing = get_or c.args.lists.now c.code.result d in
    let h : IsListOf c.args.lists.now c.args.literal c.code.result x d = record { code_is = c.code.ensures; within = c.requires; is = refl } in
    list_grows c.args.lists.now c.args.literal c.code.result x d c.make_room.new.self h c.make_room.ensures.grows

pub returns-clause-more : goal.returns-clause-more
returns-clause-more c = λ t.
    let d : Listing = c.index-lists-code.result in
    let x : Listing = get_or c.args.lists.now c.code.result d in
    let h : IsListOf c.args.lists.now c.args.literal c.code.result x d = record { code_is = c.code.ensures; within = c.requires; is = refl } in
    list_more c.args.lists.now c.args.literal c.code.result x d c.make_room.new.self h (c.make_room.ensures.more t)
