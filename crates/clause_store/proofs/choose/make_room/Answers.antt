use Rattle.std.proofs.Common.{◌≤◌, ◌+◌, All, take, ◌∙◌, arith}
use Rattle.std.proofs.lemmas.List.Elements.{All-weaker}
use Rattle.literals.specs.Signed.{Signed}
use Rattle.clause_store.specs.Entries.{rooms, room_of}
use Rattle.clause_store.proofs.Loops.{take_whole, All-grown}
use Rattle.clause_store.proofs.choose.make_room.Goals as goal

pub loop-literal-preserved : goal.loop-literal-preserved
loop-literal-preserved c =
    let first = rooms c.args.lists.now in
    let old = rooms c.loop-literal.lists in
    let new = rooms c.make_room_at.new.lists in
    record {
      watches = c.make_room_at.ensures.watches ∙ c.loop-literal.invariant.watches;
      grows = λ x. omega (arith, c.make_room_at.ensures.grows x, c.loop-literal.invariant.grows x);
      more = All-grown (λ (x : Signed). room_of first x + 1 ≤ room_of new x) c.args.literals.now c.loop-literal.literal-index c.literal-item.result (omega arith) c.literal-item.is
          (All-weaker (λ (x : Signed). room_of first x + 1 ≤ room_of old x) (λ (x : Signed). room_of first x + 1 ≤ room_of new x) (λ x le. omega (arith, c.make_room_at.ensures.grows x)) (take c.loop-literal.literal-index c.args.literals.now) c.loop-literal.invariant.more)
          (omega (arith, c.make_room_at.ensures.more c.if-not-make_room_at.false, c.loop-literal.invariant.grows c.literal-item.result));
    }

pub returns-clause-more : goal.returns-clause-more
returns-clause-more c = λ t.
    take_whole (All (λ (x : Signed). room_of (rooms c.args.lists.now) x + 1 ≤ room_of (rooms c.loop-literal.lists) x)) c.args.literals.now c.loop-literal.literal-index (omega arith) (omega arith) c.loop-literal.invariant.more
