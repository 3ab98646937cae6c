use Rattle.std.proofs.Common.{◌≡◌, ◌<◌, ◌^◌, [], ap, subst, sym, arith}
use Rattle.clause_store.specs.Assigned.{Assigned}
use Rattle.clause_store.specs.Entries.{bare, rooms}
use Rattle.clause_store.proofs.Rooms.{moves_fewer}
use Rattle.clause_store.specs.Empties.{all_filled}
use Rattle.clause_store.specs.From.{AreSingles}
use Rattle.clause_store.proofs.Empties.{Fewer-filled, length_filled, still_some, still_none}
use Rattle.clause_store.proofs.Fewer.{IsKept-cut, tight-cut}
use Rattle.clause_store.proofs.counted.CountedStore.cut_to.Goals as goal

pub invariant_of-self : goal.invariant_of-self
invariant_of-self c =
    let i = c.self.inside in
    let steps : c.clear.new.self.steps ≡ [] = ap (λ (t : Assigned). t.steps) c.clear.ensures in
    let atoms : c.clear.new.self.atoms ≡ i.trail.atoms = ap (λ (t : Assigned). t.atoms) c.clear.ensures in
    let depth : c.clear.new.self.depth ≡ 0 = ap (λ (t : Assigned). t.depth) c.clear.ensures in
    record {
      kept =
          IsKept-cut i.rows.entries c.cut_to.new.rows.entries (bare i.lists.items) i.trail c.clear.new.self i.head i.waiting.items c.wait_singles.new.waiting.items i.empty c.still_empty-self-inside.result c.cut_to.ensures.fewer steps atoms c.still_empty-self-inside.ensures
          (tight-cut (all_filled i.rows.entries) (all_filled c.cut_to.new.rows.entries) (bare i.lists.items) i.trail c.clear.new.self c.wait_singles.new.waiting.items (Fewer-filled i.rows.entries c.cut_to.new.rows.entries c.cut_to.ensures.fewer) steps atoms depth
          (subst (λ n. AreSingles (all_filled c.cut_to.new.rows.entries) n c.wait_singles.new.waiting.items) (sym (length_filled c.cut_to.new.rows.entries)) c.wait_singles.ensures.singles.singles) c.self.invariant.kept.tight.watch) c.self.invariant.kept;
      waits = record { apart = c.wait_singles.ensures.singles.apart; room = omega (arith, c.cut_to.ensures.fewer.count, c.self.invariant.waits.room, c.clear-2.ensures.capacity, c.wait_singles.ensures.room) };
      moves = moves_fewer i.rows.entries c.cut_to.new.rows.entries (rooms i.lists.items) c.cut_to.ensures.fewer c.self.invariant.moves;
    }

pub still_empty-self-inside-requires : goal.still_empty-self-inside-requires
still_empty-self-inside-requires c =
    let i = c.self.inside in
    record {
      small = subst (λ n. n < 2 ^ 32) (sym c.cut_to.ensures.fewer.count) c.self.invariant.kept.small;
      some = still_some i.rows.entries c.cut_to.new.rows.entries i.empty c.cut_to.ensures.fewer c.self.invariant.kept.empty_is;
      none = still_none i.rows.entries c.cut_to.new.rows.entries i.empty c.cut_to.ensures.fewer c.self.invariant.kept.empty_is;
    }

pub wait_singles-requires-clause-room : goal.wait_singles-requires-clause-room
wait_singles-requires-clause-room c = omega (arith, c.cut_to.ensures.fewer.count, c.self.invariant.waits.room, c.clear-2.ensures.capacity)
