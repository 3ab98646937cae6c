use Rattle.std.proofs.Common.{set, subst}
use Rattle.literals.specs.Signed.{packed}
use Rattle.clause_store.specs.Entries.{bare}
use Rattle.clause_store.specs.Sweeps.{State, SweptGives}
use Rattle.clause_store.proofs.Turning.{turn-gives, swept_shape}
use Rattle.clause_store.proofs.Rooms.{bare_set, turn_list, turn_watches, turn_room, turn_back}
use Rattle.clause_store.proofs.run.turn.Goals as goal

pub sweep-swept-requires-clause-watching : goal.sweep-swept-requires-clause-watching
sweep-swept-requires-clause-watching c =
    turn_watches c.args.trail.now.atoms c.args.f c.args.rows.now.entries c.args.lists.now c.swap.new.x c.swap.new.y c.index-lists-code.result c.code-code.result c.code-code.ensures c.swap.ensures.y_after c.requires.known c.requires.watching

pub sweep-swept-requires-clause-room : goal.sweep-swept-requires-clause-room
sweep-swept-requires-clause-room c =
    turn_room c.args.trail.now.atoms c.args.f c.args.rows.now.entries c.args.lists.now c.swap.new.x c.swap.new.y c.index-lists-code.result c.code-code.result c.code-code.ensures c.swap.ensures.y_after c.requires.known c.requires.watching c.requires.move_room

pub returns-clause-gives : goal.returns-clause-gives
returns-clause-gives c =
    let lists = c.args.lists.now in
    let s : State = record { entries = c.sweep-swept.new.rows.entries; lists = bare c.sweep-swept.new.lists; steps = c.sweep-swept.new.trail.steps; list = c.sweep-swept.new.list.watches } in
    let gives : SweptGives c.args.trail.now.atoms c.args.trail.now.depth c.args.f (record { entries = c.args.rows.now.entries; lists = set (bare lists) c.code-code.result c.swap.new.x.watches; steps = c.args.trail.now.steps; list = c.swap.new.y.watches }) s c.sweep-swept.result =
    subst (λ xs. SweptGives c.args.trail.now.atoms c.args.trail.now.depth c.args.f (record { entries = c.args.rows.now.entries; lists = xs; steps = c.args.trail.now.steps; list = c.swap.new.y.watches }) s c.sweep-swept.result) (bare_set lists c.code-code.result c.swap.new.x) c.sweep-swept.ensures.gives in
    rw (c.code-code.ensures, c.swap-2.ensures.x_after, bare_set c.sweep-swept.new.lists (packed c.args.f) c.sweep-swept.new.list)
    (turn-gives c.args.trail.now.atoms c.args.trail.now.depth c.args.f c.args.rows.now.entries (bare lists) c.args.trail.now.steps c.swap.new.x.watches c.swap.new.y.watches c.index-lists-code.result.watches c.code-code.result s c.sweep-swept.result
    c.code-code.ensures (turn_list c.args.trail.now.atoms c.args.f c.args.rows.now.entries lists c.swap.new.y c.index-lists-code.result c.code-code.result c.code-code.ensures c.swap.ensures.y_after c.requires.known c.requires.watching) c.requires.known c.requires.watching gives)

pub returns-clause-keeps : goal.returns-clause-keeps
returns-clause-keeps c = record {
  rises = c.sweep-swept.ensures.rises;
  grows = c.sweep-swept.ensures.grows;
  clauses = c.sweep-swept.ensures.clauses;
  count = c.sweep-swept.ensures.count;
  shape = swept_shape c.args.trail.now.atoms c.args.trail.now.depth c.args.f _ _ c.sweep-swept.result c.sweep-swept.ensures.gives;
  rooms =
      turn_back c.args.trail.now.atoms c.args.f c.args.rows.now.entries c.args.lists.now c.sweep-swept.new.lists c.swap.new.x c.swap.new.y c.index-lists-code.result c.sweep-swept.new.list c.swap-2.new.x c.code-code.result c.code-code.ensures c.swap.ensures.y_after c.requires.known c.requires.watching
      c.sweep-swept.ensures.rooms.0 c.sweep-swept.ensures.rooms.1 c.swap-2.ensures.x_after;
  atoms = c.sweep-swept.ensures.same.0;
  depth = c.sweep-swept.ensures.same.1;
}
