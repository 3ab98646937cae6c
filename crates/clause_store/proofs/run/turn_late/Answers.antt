use Rattle.std.proofs.Common.{set, subst}
use Rattle.literals.specs.Signed.{packed}
use Rattle.clause_store.specs.Entries.{bare}
use Rattle.clause_store.specs.Sweeps.{State}
use Rattle.clause_store.specs.Late.{LateSweptGives}
use Rattle.clause_store.proofs.Driving.{late-turn, late_shape}
use Rattle.clause_store.proofs.Rooms.{bare_set, turn_list, turn_watches, turn_room, turn_back}
use Rattle.clause_store.proofs.run.turn_late.Goals as goal

pub sweep_late-swept-requires-clause-watching : goal.sweep_late-swept-requires-clause-watching
sweep_late-swept-requires-clause-watching c =
    turn_watches c.args.trail.now.atoms c.args.f c.args.rows.now.entries c.args.lists.now c.swap.new.x c.swap.new.y c.index-lists-code.result c.code-code.result c.code-code.ensures c.swap.ensures.y_after c.requires.known c.requires.watching

pub sweep_late-swept-requires-clause-move_room : goal.sweep_late-swept-requires-clause-move_room
sweep_late-swept-requires-clause-move_room c =
    turn_room c.args.trail.now.atoms c.args.f c.args.rows.now.entries c.args.lists.now c.swap.new.x c.swap.new.y c.index-lists-code.result c.code-code.result c.code-code.ensures c.swap.ensures.y_after c.requires.known c.requires.watching c.requires.move_room

pub returns-clause-gives : goal.returns-clause-gives
returns-clause-gives c = λ head covers.
    let lists = c.args.lists.now in
    let s : State = record { entries = c.sweep_late-swept.new.rows.entries; lists = bare c.sweep_late-swept.new.lists; steps = c.sweep_late-swept.new.trail.steps; list = c.sweep_late-swept.new.list.watches } in
    let gives : LateSweptGives c.args.trail.now.atoms c.args.trail.now.depth c.args.f (record { entries = c.args.rows.now.entries; lists = set (bare lists) c.code-code.result c.swap.new.x.watches; steps = c.args.trail.now.steps; list = c.swap.new.y.watches }) s c.args.waiting.now.items c.sweep_late-swept.new.waiting.items c.sweep_late-swept.result =
    subst (λ xs. LateSweptGives c.args.trail.now.atoms c.args.trail.now.depth c.args.f (record { entries = c.args.rows.now.entries; lists = xs; steps = c.args.trail.now.steps; list = c.swap.new.y.watches }) s c.args.waiting.now.items c.sweep_late-swept.new.waiting.items c.sweep_late-swept.result) (bare_set lists c.code-code.result c.swap.new.x) c.sweep_late-swept.ensures.gives in
    rw (c.code-code.ensures, c.swap-2.ensures.x_after, bare_set c.sweep_late-swept.new.lists (packed c.args.f) c.sweep_late-swept.new.list)
    (late-turn c.args.trail.now.atoms c.args.trail.now.depth c.args.f c.args.rows.now.entries (bare lists) c.args.trail.now.steps c.swap.new.x.watches c.swap.new.y.watches c.index-lists-code.result.watches c.code-code.result s c.sweep_late-swept.result
    c.args.waiting.now.items c.sweep_late-swept.new.waiting.items head c.code-code.ensures (turn_list c.args.trail.now.atoms c.args.f c.args.rows.now.entries lists c.swap.new.y c.index-lists-code.result c.code-code.result c.code-code.ensures c.swap.ensures.y_after c.requires.known c.requires.watching) c.requires.known c.requires.watching gives covers)

pub returns-clause-keeps : goal.returns-clause-keeps
returns-clause-keeps c = record {
  rises = c.sweep_late-swept.ensures.rises;
  grows = c.sweep_late-swept.ensures.grows;
  clauses = c.sweep_late-swept.ensures.clauses;
  count = c.sweep_late-swept.ensures.count;
  shape = late_shape c.args.trail.now.atoms c.args.trail.now.depth c.args.f _ _ c.args.waiting.now.items c.sweep_late-swept.new.waiting.items c.sweep_late-swept.result c.sweep_late-swept.ensures.gives;
  rooms =
      turn_back c.args.trail.now.atoms c.args.f c.args.rows.now.entries c.args.lists.now c.sweep_late-swept.new.lists c.swap.new.x c.swap.new.y c.index-lists-code.result c.sweep_late-swept.new.list c.swap-2.new.x c.code-code.result c.code-code.ensures c.swap.ensures.y_after c.requires.known c.requires.watching
      c.sweep_late-swept.ensures.rooms.0 c.sweep_late-swept.ensures.rooms.1 c.swap-2.ensures.x_after;
  atoms = c.sweep_late-swept.ensures.same.0;
  depth = c.sweep_late-swept.ensures.same.1;
}
