use Rattle.std.proofs.Common.{rules, ◌≡◌, ◌<◌, ◌≤◌, ◌+◌, List, All, length, vec_capacity, ◌∙◌, ap, subst, sym, refl, arith}
use Rattle.literals.specs.Signed.{Signed}
use Rattle.clause_store.specs.Entries.{Listing, bare, rooms, room_of}
use Rattle.clause_store.specs.Looks.{AreApart}
use Rattle.clause_store.specs.Room.{rows_of, HasPlace, HasRoomToMove}
use Rattle.clause_store.specs.Gaining.{KeepsUp}
use Rattle.clause_store.specs.Empties.{all_filled}
use Rattle.clause_store.proofs.Stores.{IsKept-gains, stored_more, tight-kept, back_whole}
use Rattle.clause_store.proofs.Empties.{names_gains, tight-within, filled_literals}
use Rattle.clause_store.proofs.Rooms.{moves_gains, moves_literals, places, roomy_same}
use Rattle.clause_store.proofs.counted.CountedStore.add_watched.Goals as goal

pub invariant_of-self-2 : goal.invariant_of-self-2
invariant_of-self-2 c =
    let i = c.self.inside in
    let k = c.keep_up in
    let m = c.make_room.new.lists in
    let known : All (λ (l : Signed). l.atom < i.trail.atoms) c.args.literals.now = rw (← c.self.view_is) at c.requires.known in
    let lists : c.deref_mut-2.result.now ≡ m = c.deref_mut-2.ensures.value ∙ back_whole m i.lists.items i.lists.len (omega (arith, c.make_room.auto.lists, c.deref_mut.ensures.len)) in
    let same : bare c.deref_mut-2.result.now ≡ bare i.lists.items = ap bare lists ∙ (c.make_room.ensures.watches ∙ ap bare c.deref_mut.ensures.value) in
    let grows : (l : Signed) → room_of (rooms i.lists.items) l ≤ room_of (rooms m) l = subst (λ xs. (l : Signed) → room_of (rooms xs) l ≤ room_of (rooms m) l) c.deref_mut.ensures.value c.make_room.ensures.grows in
    let more : All (λ (l : Signed). room_of (rooms i.lists.items) l + 1 ≤ room_of (rooms m) l) c.args.literals.now =
    subst (λ xs. All (λ (l : Signed). room_of (rooms xs) l + 1 ≤ room_of (rooms m) l) c.args.literals.now) c.deref_mut.ensures.value (c.make_room.ensures.more c.if-not-make_room.false) in
    let keeps : KeepsUp i.trail.atoms i.trail.steps (all_filled i.rows.entries) (all_filled k.new.rows.entries) (bare c.deref_mut-2.result.now) (bare k.new.lists) c.make_room_to_wait.new.waiting.items k.new.waiting.items = c.in_ok-keep_up.ensures.keeps in
    let keeps' : KeepsUp i.trail.atoms i.trail.steps (all_filled i.rows.entries) (all_filled k.new.rows.entries) (bare i.lists.items) (bare k.new.lists) i.waiting.items k.new.waiting.items =
    subst (λ ls. KeepsUp i.trail.atoms i.trail.steps (all_filled i.rows.entries) (all_filled k.new.rows.entries) ls (bare k.new.lists) i.waiting.items k.new.waiting.items) same
    (subst (λ xs. KeepsUp i.trail.atoms i.trail.steps (all_filled i.rows.entries) (all_filled k.new.rows.entries) (bare c.deref_mut-2.result.now) (bare k.new.lists) xs k.new.waiting.items) c.make_room_to_wait.ensures.items keeps) in
    rw (back_whole k.new.lists _ i.lists.len (omega (arith, k.auto.lists, c.make_room.auto.lists, c.deref_mut.ensures.len, ap (λ (xs : List Listing). length xs) lists))) (record {
      kept = IsKept-gains i.rows.entries k.new.rows.entries c.args.literals.now c.args.level (bare i.lists.items) (bare k.new.lists) i.trail i.head i.waiting.items k.new.waiting.items i.empty i.empty c.in_ok-keep_up.ensures.gains c.self.invariant.kept
          known (omega arith) (names_gains i.rows.entries k.new.rows.entries c.args.literals.now c.args.level i.empty c.in_ok-keep_up.ensures.gains c.requires.some c.self.invariant.kept.empty_is)
          (tight-kept (all_filled i.rows.entries) (all_filled k.new.rows.entries) (bare i.lists.items) (bare k.new.lists) i.trail i.head i.waiting.items k.new.waiting.items keeps' c.self.invariant.kept.tight);
      waits = k.ensures.waiting;
      moves = subst (HasRoomToMove k.new.rows.entries) (sym (k.ensures.rooms ∙ ap rooms lists))
          (moves_gains i.rows.entries k.new.rows.entries c.args.literals.now c.args.level (rooms i.lists.items) (rooms m) c.in_ok-keep_up.ensures.gains grows more c.self.invariant.moves);
    })

pub keep_up-requires-clause-within : goal.keep_up-requires-clause-within
keep_up-requires-clause-within c =
    let i = c.self.inside in
    rw c.make_room_to_wait.ensures.items (tight-within i.rows.entries (bare i.lists.items) i.trail i.head i.waiting.items c.self.invariant.kept.tight)

pub keep_up-requires-clause-waiting : goal.keep_up-requires-clause-waiting
keep_up-requires-clause-waiting c =
    rw c.make_room_to_wait.ensures.items (record { apart = c.self.invariant.waits.apart; room = omega (arith, c.self.invariant.waits.room, c.make_room_to_wait.ensures.same) })

pub keep_up-requires-clause-one_more : goal.keep_up-requires-clause-one_more
keep_up-requires-clause-one_more c = omega (arith, c.len-row.ensures, c.make_room_to_wait.ensures.room c.if-not-make_room_to_wait.false)

pub keep_up-requires-clause-places : goal.keep_up-requires-clause-places
keep_up-requires-clause-places c =
    let i = c.self.inside in
    let m = c.make_room.new.lists in
    let lists : c.deref_mut-2.result.now ≡ m = c.deref_mut-2.ensures.value ∙ back_whole m i.lists.items i.lists.len (omega (arith, c.make_room.auto.lists, c.deref_mut.ensures.len)) in
    let same : bare c.deref_mut-2.result.now ≡ bare i.lists.items = ap bare lists ∙ (c.make_room.ensures.watches ∙ ap bare c.deref_mut.ensures.value) in
    let more : All (λ (l : Signed). room_of (rooms i.lists.items) l + 1 ≤ room_of (rooms m) l) c.args.literals.now =
    subst (λ xs. All (λ (l : Signed). room_of (rooms xs) l + 1 ≤ room_of (rooms m) l) c.args.literals.now) c.deref_mut.ensures.value (c.make_room.ensures.more c.if-not-make_room.false) in
    let moves : HasRoomToMove (all_filled i.rows.entries) (rooms i.lists.items) = moves_literals i.rows.entries (all_filled i.rows.entries) (rooms i.lists.items) (filled_literals i.rows.entries) c.self.invariant.moves in
    let all : All (HasPlace (bare i.lists.items) (rooms m)) c.args.literals.now = places (all_filled i.rows.entries) (bare i.lists.items) (rooms i.lists.items) (rooms m) c.args.literals.now c.self.invariant.kept.tight.watch.tidy moves more in
    subst (λ xs. All (HasPlace xs (rooms c.deref_mut-2.result.now)) c.args.literals.now) (sym same) (subst (λ rs. All (HasPlace (bare i.lists.items) rs) c.args.literals.now) (sym (ap rooms lists)) all)

pub invariant_of-self-then-not-make_room : goal.invariant_of-self-then-not-make_room
invariant_of-self-then-not-make_room c =
    let i = c.self.inside in
    let m = c.make_room.new.lists in
    let w = c.make_room_to_wait.new.waiting in
    rw (back_whole m i.lists.items i.lists.len (omega (arith, c.make_room.auto.lists, c.deref_mut.ensures.len)))
    (roomy_same i.rows.entries i.rows.entries i.lists.items m i.trail i.head i.waiting.items w.items (vec_capacity i.waiting) (vec_capacity w) i.empty refl (c.make_room.ensures.watches ∙ ap bare c.deref_mut.ensures.value)
    (subst (λ xs. (l : Signed) → room_of (rooms xs) l ≤ room_of (rooms m) l) c.deref_mut.ensures.value c.make_room.ensures.grows) c.make_room_to_wait.ensures.items
    (record { apart = subst (λ xs. AreApart (rows_of xs)) (sym c.make_room_to_wait.ensures.items) c.self.invariant.waits.apart; room = omega (arith, c.self.invariant.waits.room, c.make_room_to_wait.ensures.same) }) c.self.invariant)

pub invariant_of-self-in_err-keep_up : goal.invariant_of-self-in_err-keep_up
invariant_of-self-in_err-keep_up c =
    let i = c.self.inside in
    let k = c.keep_up in
    let m = c.make_room.new.lists in
    let lists : c.deref_mut-2.result.now ≡ m = c.deref_mut-2.ensures.value ∙ back_whole m i.lists.items i.lists.len (omega (arith, c.make_room.auto.lists, c.deref_mut.ensures.len)) in
    let grows : (l : Signed) → room_of (rooms i.lists.items) l ≤ room_of (rooms m) l = subst (λ xs. (l : Signed) → room_of (rooms xs) l ≤ room_of (rooms m) l) c.deref_mut.ensures.value c.make_room.ensures.grows in
    rw (back_whole k.new.lists _ i.lists.len (omega (arith, k.auto.lists, c.make_room.auto.lists, c.deref_mut.ensures.len, ap (λ (xs : List Listing). length xs) lists)))
    (roomy_same i.rows.entries k.new.rows.entries i.lists.items k.new.lists i.trail i.head i.waiting.items k.new.waiting.items (vec_capacity i.waiting) (vec_capacity k.new.waiting) i.empty c.in_err-keep_up.ensures.same.0
    (c.in_err-keep_up.ensures.same.1 ∙ (ap bare lists ∙ (c.make_room.ensures.watches ∙ ap bare c.deref_mut.ensures.value)))
    (subst (λ rs. (l : Signed) → room_of (rooms i.lists.items) l ≤ room_of rs l) (sym (k.ensures.rooms ∙ ap rooms lists)) grows) (c.in_err-keep_up.ensures.same.2 ∙ c.make_room_to_wait.ensures.items) k.ensures.waiting c.self.invariant)

pub returns : goal.returns
returns c = record {
  added =
      (let i = c.self.inside in
      rw (← c.self.view_is, c.len-row.ensures) (stored_more i.rows.entries c.keep_up.new.rows.entries c.args.literals.now c.args.level i.trail c.in_ok-keep_up.ensures.gains));
  same = search rules;
  settled = search rules;
  looks = search rules;
}
