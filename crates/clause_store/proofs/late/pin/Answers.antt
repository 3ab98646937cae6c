use Rattle.std.proofs.Common.{◌≡◌, List, length, length-set, ap, ◌∙◌, refl, arith}
use Rattle.clause_store.specs.Entries.{Entry}
use Rattle.clause_store.specs.declared.waits.Wait.{Wait}
use Rattle.clause_store.proofs.LateLooks.{force-true}
use Rattle.clause_store.proofs.late.pin.Goals as goal

pub returns-then-is_same-clause-gives : goal.returns-then-is_same-clause-gives
returns-then-is_same-clause-gives c =
    let w : Wait = record { row = c.args.row; literal = c.args.other; depth = c.args.from } in (
      refl,
      c.is_same.ensures.yes c.if-is_same.true,
      record { entries = refl; lists = refl },
      record {
        waits = c.wait_anew.ensures.waits;
        keeps = c.wait_anew.ensures.keeps;
        only = c.wait_anew.ensures.only;
        forced = force-true w c.args.trail.now.depth c.args.trail.now.steps c.force-forced.new.trail.steps c.force-forced.result c.requires.not_false c.force-forced.ensures.gives;
      },
    )

pub returns-clause-gives : goal.returns-clause-gives
returns-clause-gives c =
    let w : Wait = record { row = c.args.row; literal = c.args.other; depth = c.args.from } in (
      c.is_same.ensures.no c.if-is_same.false,
      record { entries = c.transfer.ensures.entries; lists = c.transfer.ensures.lists },
      record {
        waits = c.wait_anew.ensures.waits;
        keeps = c.wait_anew.ensures.keeps;
        only = c.wait_anew.ensures.only;
        forced = force-true w c.args.trail.now.depth c.args.trail.now.steps c.force-forced-2.new.trail.steps c.force-forced-2.result c.requires.not_false c.force-forced-2.ensures.gives;
      },
    )

pub returns-then-is_same-clause-room : goal.returns-then-is_same-clause-room
returns-then-is_same-clause-room c = record { apart = c.wait_anew.ensures.apart; room = omega (arith, c.wait_anew.ensures.room, c.requires.room.room) }

pub returns-clause-room : goal.returns-clause-room
returns-clause-room c =
    let count : length c.transfer.new.rows.entries ≡ length c.args.rows.now.entries = ap (λ (xs : List Entry). length xs) c.transfer.ensures.entries ∙ length-set c.args.rows.now.entries c.args.row _ in
    record { apart = c.wait_anew.ensures.apart; room = omega (arith, c.wait_anew.ensures.room, c.requires.room.room) }

pub wait_anew-requires : goal.wait_anew-requires
wait_anew-requires c = record { apart = c.requires.room.apart; room = (length c.args.rows.now.entries, c.requires.place, c.requires.within, c.requires.room.room) }

pub transfer-requires-clause-room : goal.transfer-requires-clause-room
transfer-requires-clause-room c = c.requires.move_room (c.is_same.ensures.no c.if-is_same.false)
