use Rattle.std.proofs.Common.{◌≡◌, ◌+◌, set, subst, sym, ◌∙◌, refl, arith, ap}
use Rattle.std.specs.List.{swap_remove}
use Rattle.std.proofs.lemmas.List.{get_or_default}
use Rattle.literals.specs.Signed.{opposite, packed}
use Rattle.clause_store.specs.Room.{HasRoomToMove}
use Rattle.clause_store.proofs.Rooms.{bare_count, leaves_room}
use Rattle.clause_store.specs.Entries.{Listing, IsKnown, entry_at, bare, rooms}
use Rattle.clause_store.specs.Visits.{Parts}
use Rattle.clause_store.specs.Late.{LateGives, LateSweeps}
use Rattle.clause_store.specs.Sweeps.{State}
use Rattle.clause_store.proofs.Rounds.{sound_at, known_at, with_list}
use Rattle.clause_store.proofs.LateRounds.{Late-none, Late-keep, Late-gone, Late-false, Late-end, own_at, waiting_within}
use Rattle.clause_store.proofs.Kept.{Grows-assigns}
use Rattle.clause_store.proofs.Counting.{Seen-start, Visited, Seen-keep, Seen-gone, Seen-last, Seen-whole}
use Rattle.clause_store.specs.declared.sweep.Visit.TheVariants.{Keep, Gone, False}
use Rattle.clause_store.specs.declared.lists.Watch.{Watch}
use Rattle.clause_store.proofs.late.sweep_late.Goals as goal

pub visit-requires-clause-place : goal.visit-requires-clause-place
visit-requires-clause-place c =
    let s : State = record { entries = c.watches.rows.entries; lists = bare c.watches.lists; steps = c.watches.trail.steps; list = c.watches.list.watches } in
    (sound_at _ c.args.f s c.watches.k c.get-watch.result (omega (arith, bare_count c.watches.lists, bare_count c.args.lists.now)) c.watches.invariant.sweeps.watch (omega (arith, bare_count c.watches.lists, bare_count c.args.lists.now)) c.get-watch.ensures).within

pub visit-requires-clause-own : goal.visit-requires-clause-own
visit-requires-clause-own c =
    let s : State = record { entries = c.watches.rows.entries; lists = bare c.watches.lists; steps = c.watches.trail.steps; list = c.watches.list.watches } in
    own_at _ c.args.f s c.watches.k c.get-watch.result (omega (arith, bare_count c.watches.lists, bare_count c.args.lists.now)) c.watches.invariant.sweeps.watch (omega (arith, bare_count c.watches.lists, bare_count c.args.lists.now)) c.get-watch.ensures

pub visit-requires-clause-pair : goal.visit-requires-clause-pair
visit-requires-clause-pair c = c.watches.invariant.sweeps.watch.pairs c.get-watch.result.row

pub visit-requires-clause-is_false : goal.visit-requires-clause-is_false
visit-requires-clause-is_false c = Grows-assigns _ _ _ _ (opposite c.args.f) c.watches.invariant.sweeps.grows c.requires.is_false

pub visit-requires-clause-known : goal.visit-requires-clause-known
visit-requires-clause-known c =
    let s : State = record { entries = c.watches.rows.entries; lists = bare c.watches.lists; steps = c.watches.trail.steps; list = c.watches.list.watches } in
    λ live. subst (λ n. IsKnown n (entry_at c.watches.rows.entries c.get-watch.result.row)) (sym c.watches.invariant.atoms) (known_at _ c.args.f s c.watches.k c.get-watch.result (omega (arith, bare_count c.watches.lists, bare_count c.args.lists.now)) c.watches.invariant.sweeps.watch (omega (arith, bare_count c.watches.lists, bare_count c.args.lists.now)) c.get-watch.ensures live)

pub watches-preserved-in-Keep : goal.watches-preserved-in-Keep
watches-preserved-in-Keep c =
    let first : State = record { entries = c.args.rows.now.entries; lists = bare c.args.lists.now; steps = c.args.trail.now.steps; list = c.args.list.now.watches } in
    let p : Parts = record { entries = c.watches.rows.entries; lists = bare c.watches.lists; steps = c.watches.trail.steps } in
    let p' : Parts = record { entries = c.visit.new.rows.entries; lists = bare c.visit.new.lists; steps = c.visit.new.trail.steps } in
    let gives : LateGives c.args.f c.get-watch.result.row c.args.trail.now.depth p p' c.watches.waiting.items c.visit.new.waiting.items (Keep c.in-Keep.blocker) =
    subst (λ d. LateGives c.args.f c.get-watch.result.row d p p' c.watches.waiting.items c.visit.new.waiting.items (Keep c.in-Keep.blocker)) c.watches.invariant.depth c.in-Keep.ensures.gives in
    let v : Watch = record { blocker = c.in-Keep.blocker; row = c.get-watch.result.row } in
    let done : LateSweeps c.args.trail.now.atoms c.args.trail.now.depth c.args.f first (with_list p' (set c.watches.list.watches c.watches.k v)) c.args.waiting.now.items c.visit.new.waiting.items (c.watches.k + 1) =
    Late-keep c.args.trail.now.atoms c.args.trail.now.depth c.args.f first p p' c.args.waiting.now.items c.watches.waiting.items c.visit.new.waiting.items c.watches.list.watches c.watches.k c.get-watch.result c.in-Keep.blocker c.watches.invariant.sweeps (omega (arith, bare_count c.watches.lists, bare_count c.args.lists.now)) c.get-watch.ensures (omega (arith, bare_count c.watches.lists, bare_count c.args.lists.now)) gives in
    let now : State = record { entries = c.watches.rows.entries; lists = bare c.watches.lists; steps = c.watches.trail.steps; list = c.watches.list.watches } in
    let visited : Visited c.args.trail.now.atoms c.args.f now c.args.rows.now.entries c.watches.k c.get-watch.result c.watches.rows.looks c.visit.new.rows.looks =
    record { place = omega (arith, bare_count c.watches.lists, bare_count c.args.lists.now); watch = c.watches.invariant.sweeps.watch; shape = c.watches.invariant.sweeps.shape; within = omega arith; is = c.get-watch.ensures; once = c.in-Keep.ensures.once; dead = c.in-Keep.ensures.dead } in
    record {
      sweeps = rw c.set.ensures done;
      atoms = c.visit.ensures.same.0 ∙ c.watches.invariant.atoms;
      depth = c.visit.ensures.same.1 ∙ c.watches.invariant.depth;
      rooms = c.visit.ensures.rooms ∙ c.watches.invariant.rooms;
      list_room = ap (λ (x : Listing). x.room) c.set.ensures ∙ c.watches.invariant.list_room;
      looks = omega (arith, c.watches.invariant.looks, c.in-Keep.ensures.rises);
      room = c.in-Keep.ensures.room;
      seen = rw c.set.ensures (Seen-keep c.args.trail.now.atoms c.args.f now c.args.rows.now.entries c.watches.k c.get-watch.result v c.args.rows.now.looks c.watches.rows.looks c.visit.new.rows.looks refl visited c.watches.invariant.seen);
    }

pub watches-preserved : goal.watches-preserved
watches-preserved c =
    let first : State = record { entries = c.args.rows.now.entries; lists = bare c.args.lists.now; steps = c.args.trail.now.steps; list = c.args.list.now.watches } in
    let p : Parts = record { entries = c.watches.rows.entries; lists = bare c.watches.lists; steps = c.watches.trail.steps } in
    let p' : Parts = record { entries = c.visit.new.rows.entries; lists = bare c.visit.new.lists; steps = c.visit.new.trail.steps } in
    let same : c.take_out.result ≡ c.get-watch.result = c.take_out.ensures.value ∙ (get_or_default c.watches.list.watches c.watches.k c.take_out.result c.get-watch.result (omega (arith, bare_count c.watches.lists, bare_count c.args.lists.now)) ∙ sym c.get-watch.ensures) in
    let gives : LateGives c.args.f c.get-watch.result.row c.args.trail.now.depth p p' c.watches.waiting.items c.visit.new.waiting.items Gone =
    subst (λ d. LateGives c.args.f c.get-watch.result.row d p p' c.watches.waiting.items c.visit.new.waiting.items Gone) c.watches.invariant.depth c.in-Gone.ensures.gives in
    let done : LateSweeps c.args.trail.now.atoms c.args.trail.now.depth c.args.f first (with_list p' (swap_remove c.watches.list.watches c.watches.k c.get-watch.result)) c.args.waiting.now.items c.visit.new.waiting.items c.watches.k =
    Late-gone c.args.trail.now.atoms c.args.trail.now.depth c.args.f first p p' c.args.waiting.now.items c.watches.waiting.items c.visit.new.waiting.items c.watches.list.watches c.watches.k c.get-watch.result c.watches.invariant.sweeps (omega (arith, bare_count c.watches.lists, bare_count c.args.lists.now)) c.get-watch.ensures (omega (arith, bare_count c.watches.lists, bare_count c.args.lists.now)) c.requires.is_false gives in
    let now : State = record { entries = c.watches.rows.entries; lists = bare c.watches.lists; steps = c.watches.trail.steps; list = c.watches.list.watches } in
    let visited : Visited c.args.trail.now.atoms c.args.f now c.args.rows.now.entries c.watches.k c.get-watch.result c.watches.rows.looks c.visit.new.rows.looks =
    record { place = omega (arith, bare_count c.watches.lists, bare_count c.args.lists.now); watch = c.watches.invariant.sweeps.watch; shape = c.watches.invariant.sweeps.shape; within = omega arith; is = c.get-watch.ensures; once = c.in-Gone.ensures.once; dead = c.in-Gone.ensures.dead } in
    record {
      sweeps = rw (c.take_out.ensures.rest, same) done;
      atoms = c.visit.ensures.same.0 ∙ c.watches.invariant.atoms;
      depth = c.visit.ensures.same.1 ∙ c.watches.invariant.depth;
      rooms = c.visit.ensures.rooms ∙ c.watches.invariant.rooms;
      list_room = ap (λ (x : Listing). x.room) c.take_out.ensures.rest ∙ c.watches.invariant.list_room;
      looks = omega (arith, c.watches.invariant.looks, c.in-Gone.ensures.rises);
      room = c.in-Gone.ensures.room;
      seen = rw (c.take_out.ensures.rest, same) (Seen-gone c.args.trail.now.atoms c.args.f now c.args.rows.now.entries c.watches.k c.get-watch.result c.args.rows.now.looks c.watches.rows.looks c.visit.new.rows.looks visited c.watches.invariant.seen);
    }

pub returns-in-False-clause-gives : goal.returns-in-False-clause-gives
returns-in-False-clause-gives c =
    let first : State = record { entries = c.args.rows.now.entries; lists = bare c.args.lists.now; steps = c.args.trail.now.steps; list = c.args.list.now.watches } in
    let p : Parts = record { entries = c.watches.rows.entries; lists = bare c.watches.lists; steps = c.watches.trail.steps } in
    let p' : Parts = record { entries = c.visit.new.rows.entries; lists = bare c.visit.new.lists; steps = c.visit.new.trail.steps } in
    let gives : LateGives c.args.f c.get-watch.result.row c.args.trail.now.depth p p' c.watches.waiting.items c.visit.new.waiting.items False =
    subst (λ d. LateGives c.args.f c.get-watch.result.row d p p' c.watches.waiting.items c.visit.new.waiting.items False) c.watches.invariant.depth c.in-False.ensures.gives in
    Late-false c.args.trail.now.atoms c.args.trail.now.depth c.args.f first p p' c.args.waiting.now.items c.watches.waiting.items c.visit.new.waiting.items c.watches.list.watches c.watches.k c.get-watch.result c.watches.invariant.sweeps gives

pub returns-clause-gives : goal.returns-clause-gives
returns-clause-gives c =
    let first : State = record { entries = c.args.rows.now.entries; lists = bare c.args.lists.now; steps = c.args.trail.now.steps; list = c.args.list.now.watches } in
    let now : State = record { entries = c.watches.rows.entries; lists = bare c.watches.lists; steps = c.watches.trail.steps; list = c.watches.list.watches } in
    Late-end c.args.trail.now.atoms c.args.trail.now.depth c.args.f first now c.args.waiting.now.items c.watches.waiting.items c.watches.k (omega (arith, bare_count c.watches.lists, bare_count c.args.lists.now)) c.watches.invariant.sweeps

pub returns-in-False-clause-looks : goal.returns-in-False-clause-looks
returns-in-False-clause-looks c =
    let now : State = record { entries = c.watches.rows.entries; lists = bare c.watches.lists; steps = c.watches.trail.steps; list = c.watches.list.watches } in
    let visited : Visited c.args.trail.now.atoms c.args.f now c.args.rows.now.entries c.watches.k c.get-watch.result c.watches.rows.looks c.visit.new.rows.looks =
    record { place = omega (arith, bare_count c.watches.lists, bare_count c.args.lists.now); watch = c.watches.invariant.sweeps.watch; shape = c.watches.invariant.sweeps.shape; within = omega arith; is = c.get-watch.ensures; once = c.in-False.ensures.once; dead = c.in-False.ensures.dead } in
    Seen-last c.args.trail.now.atoms c.args.f now c.args.rows.now.entries c.watches.k c.get-watch.result c.args.rows.now.looks c.watches.rows.looks c.visit.new.rows.looks visited c.watches.invariant.seen

pub returns-clause-looks : goal.returns-clause-looks
returns-clause-looks c = Seen-whole c.args.f c.args.rows.now.entries c.watches.list.watches c.watches.k c.args.rows.now.looks c.watches.rows.looks c.watches.invariant.seen

pub watches-init : goal.watches-init
watches-init c =
    let first : State = record { entries = c.args.rows.now.entries; lists = bare c.args.lists.now; steps = c.args.trail.now.steps; list = c.args.list.now.watches } in
    record {
      sweeps = Late-none c.args.trail.now.atoms c.args.trail.now.depth c.args.f first c.args.waiting.now.items c.requires.watching c.requires.ready;
      atoms = refl;
      depth = refl;
      rooms = refl;
      list_room = refl;
      looks = omega arith;
      room = c.requires.room;
      seen = Seen-start c.args.f c.args.rows.now.entries c.args.list.now.watches c.args.rows.now.looks;
    }

pub visit-requires-clause-within : goal.visit-requires-clause-within
visit-requires-clause-within c = waiting_within c.watches.rows.entries c.watches.trail.steps c.watches.waiting.items c.watches.invariant.sweeps.ready.waiting

pub visit-requires-clause-move_room : goal.visit-requires-clause-move_room
visit-requires-clause-move_room c = λ live.
    let s : State = record { entries = c.watches.rows.entries; lists = bare c.watches.lists; steps = c.watches.trail.steps; list = c.watches.list.watches } in
    leaves_room c.args.trail.now.atoms c.args.f s c.args.rows.now.entries (rooms c.watches.lists) c.args.list.now.room c.watches.k c.get-watch.result (omega (arith, bare_count c.watches.lists, bare_count c.args.lists.now))
    c.watches.invariant.sweeps.watch (subst (λ rs. HasRoomToMove c.args.rows.now.entries (set rs (packed c.args.f) c.args.list.now.room)) (sym c.watches.invariant.rooms) c.requires.move_room) c.watches.invariant.sweeps.shape
    (omega arith) c.get-watch.ensures

pub returns-clause-rooms : goal.returns-clause-rooms
returns-clause-rooms c = (c.watches.invariant.rooms, c.watches.invariant.list_room)

pub returns-in-False-clause-rooms : goal.returns-in-False-clause-rooms
returns-in-False-clause-rooms c = (c.visit.ensures.rooms ∙ c.watches.invariant.rooms, c.watches.invariant.list_room)
