use Rattle.std.proofs.Common.{get_or, ap, refl}
use Rattle.clause_store.specs.Entries.{Listing}
use Rattle.clause_store.proofs.Rooms.{IsListOf, list_place, list_enlists, list_rooms}
use Rattle.clause_store.proofs.lists.enlist.Goals as goal

pub push-requires : goal.push-requires
push-requires c =
    let d : Listing = c.index-lists-code.result in
    let x : Listing = get_or c.args.lists.now c.code.result d in
    let h : IsListOf c.args.lists.now c.args.literal c.code.result x d = record { code_is = c.code.ensures; within = c.requires.list; is = refl } in
    list_place c.args.lists.now c.args.literal c.code.result x d h c.requires.room

pub returns-clause-lists : goal.returns-clause-lists
returns-clause-lists c =
    let d : Listing = c.index-lists-code.result in
    let x : Listing = get_or c.args.lists.now c.code.result d in
    let h : IsListOf c.args.lists.now c.args.literal c.code.result x d = record { code_is = c.code.ensures; within = c.requires.list; is = refl } in
    list_enlists c.args.lists.now c.args.literal c.code.result x d c.push.new.self c.args.watch h c.push.ensures

pub returns-clause-rooms : goal.returns-clause-rooms
returns-clause-rooms c =
    let d : Listing = c.index-lists-code.result in
    let x : Listing = get_or c.args.lists.now c.code.result d in
    let h : IsListOf c.args.lists.now c.args.literal c.code.result x d = record { code_is = c.code.ensures; within = c.requires.list; is = refl } in
    list_rooms c.args.lists.now c.args.literal c.code.result x d c.push.new.self h (ap (λ (y : Listing). y.room) c.push.ensures)
