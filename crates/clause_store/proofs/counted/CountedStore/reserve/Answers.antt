use Rattle.std.proofs.Common.{◌≡◌, ◌≤◌, ◌*◌, length, max, ap, refl, arith}
use Rattle.clause_store.specs.Entries.{bare, rooms}
use Rattle.clause_store.proofs.Rooms.{bare_count, moves_rooms}
use Rattle.clause_store.specs.Assigned.{Assigned}
use Rattle.clause_store.proofs.Fewer.{IsKept-more}
use Rattle.clause_store.proofs.counted.CountedStore.reserve.Goals as goal

pub invariant_of-self-2 : goal.invariant_of-self-2
invariant_of-self-2 c =
    let i = c.self.inside in
    let lists = c.make_lists.new.lists in
    let t : Assigned = c.reserve.new.self in
    let atoms : t.atoms ≡ max i.trail.atoms c.args.atoms = ap (λ (x : Assigned). x.atoms) c.in_ok-reserve.ensures.reserved in
    let room : 2 * t.atoms ≤ length (bare lists.items) =
    let old : 2 * i.trail.atoms ≤ length (bare i.lists.items) = c.self.invariant.kept.tight.watch.room in
    omega (arith, bare_count lists.items, bare_count i.lists.items, lists.ok, i.lists.ok, c.in_ok-make_lists.ensures.room, c.in_ok-make_lists.ensures.more) in
    record {
      kept =
          IsKept-more i.rows.entries (bare i.lists.items) (bare lists.items) i.trail t i.head i.waiting.items i.empty (ap (λ (x : Assigned). x.steps) c.in_ok-reserve.ensures.reserved) (ap (λ (x : Assigned). x.depth) c.in_ok-reserve.ensures.reserved)
          (omega arith) c.in_ok-make_lists.ensures.same room c.self.invariant.kept;
      waits = c.self.invariant.waits;
      moves = moves_rooms i.rows.entries (rooms i.lists.items) (rooms lists.items) (λ l. omega (arith, c.in_ok-make_lists.ensures.rooms l)) c.self.invariant.moves;
    }

pub invariant_of-self-in_err-reserve : goal.invariant_of-self-in_err-reserve
invariant_of-self-in_err-reserve c =
    let i = c.self.inside in
    let lists = c.make_lists.new.lists in
    let t : Assigned = c.reserve.new.self in
    let atoms : t.atoms ≡ i.trail.atoms = ap (λ (x : Assigned). x.atoms) c.in_err-reserve.ensures.same in
    let room : 2 * t.atoms ≤ length (bare lists.items) =
    let old : 2 * i.trail.atoms ≤ length (bare i.lists.items) = c.self.invariant.kept.tight.watch.room in
    omega (arith, bare_count lists.items, bare_count i.lists.items, lists.ok, i.lists.ok, c.in_ok-make_lists.ensures.more) in
    record {
      kept =
          IsKept-more i.rows.entries (bare i.lists.items) (bare lists.items) i.trail t i.head i.waiting.items i.empty (ap (λ (x : Assigned). x.steps) c.in_err-reserve.ensures.same) (ap (λ (x : Assigned). x.depth) c.in_err-reserve.ensures.same)
          (omega arith) c.in_ok-make_lists.ensures.same room c.self.invariant.kept;
      waits = c.self.invariant.waits;
      moves = moves_rooms i.rows.entries (rooms i.lists.items) (rooms lists.items) (λ l. omega (arith, c.in_ok-make_lists.ensures.rooms l)) c.self.invariant.moves;
    }

pub invariant_of-self : goal.invariant_of-self
invariant_of-self c =
    let i = c.self.inside in
    let lists = c.make_lists.new.lists in
    let room : 2 * i.trail.atoms ≤ length (bare lists.items) =
    let old : 2 * i.trail.atoms ≤ length (bare i.lists.items) = c.self.invariant.kept.tight.watch.room in
    omega (arith, bare_count lists.items, bare_count i.lists.items, lists.ok, i.lists.ok, c.in_err-make_lists.ensures.more) in
    record {
      kept = IsKept-more i.rows.entries (bare i.lists.items) (bare lists.items) i.trail i.trail i.head i.waiting.items i.empty refl refl (omega arith) c.in_err-make_lists.ensures.same room c.self.invariant.kept;
      waits = c.self.invariant.waits;
      moves = moves_rooms i.rows.entries (rooms i.lists.items) (rooms lists.items) (λ l. omega (arith, c.in_err-make_lists.ensures.rooms l)) c.self.invariant.moves;
    }
