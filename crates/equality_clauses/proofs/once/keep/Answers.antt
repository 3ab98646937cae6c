use Rattle.std.proofs.Common.{◌≡◌, ◌+◌, ◌<◌, ◌≤◌, length, set, refl, arith, get_or-set_same, get_or-set_other, length-set}
use Rattle.std.proofs.lemmas.Grind.{common_steps}
use Rattle.equality_clauses.specs.Once.{IsPlaced}
use Rattle.equality_clauses.proofs.OnceLemmas.{placed_push, placed_resized}
use Rattle.equality_clauses.proofs.once.keep.Goals as goal
use Rattle.equality_clauses.proofs.once.keep.Goals.{then-len-place+in_ok-resize, else-len-place}

pub returns-clause-placed : goal.returns-clause-placed
returns-clause-placed c =
    let places = c.if-len-place.places.items in
    let kept = c.args.kept.now.items in
    let n = c.args.number in
    let size : c.len-2.result ≡ length kept = grind (arith, common_steps) in
    let room : IsPlaced places kept × (n < length places) = elim c.if-len-place.branch [
      | then-len-place+in_ok-resize w ↦
          let short : length c.args.places.now.items ≤ n + 1 = grind (arith, common_steps, w.if-len-place.true) in
          rw w.places-is (placed_resized c.args.places.now.items w.resize.new.self.items _ kept (n + 1) c.requires.placed short w.in_ok-resize.ensures.items, grind (arith, common_steps, w.in_ok-resize.ensures.len))
      | else-len-place w ↦ rw w.places-is (c.requires.placed, grind (arith, common_steps, w.if-len-place.false))
    ] in
    let lt : n < length places = room.1 in
    placed_push places (set places n c.len-2.result) kept c.push.new.self.items n room.0 c.requires.new lt (length-set places n c.len-2.result) (rw get_or-set_same size) (λ m ne. rw get_or-set_other refl)
    c.in_ok-push.ensures.items
