use Rattle.std.proofs.Common.{ap}
use Rattle.clause_store.specs.Assigned.{Assigned}
use Rattle.clause_store.specs.Entries.{bare}
use Rattle.clause_store.proofs.Looks.{step-moves, step-implies, step-false}
use Rattle.clause_store.proofs.sweep.step.Goals as goal

pub returns-in-Some-clause-gives : goal.returns-in-Some-clause-gives
returns-in-Some-clause-gives c =
    step-moves c.in-Some.found c.args.other c.args.row c.args.trail.now.depth c.args.rows.now.entries c.transfer.new.rows.entries (bare c.args.lists.now) (bare c.transfer.new.lists) c.args.trail.now.steps c.in-Some.ensures.some
    (rw c.look_for.ensures.same at c.transfer.ensures.entries) c.transfer.ensures.lists

pub returns-in-Some-look_for-clause-gives : goal.returns-in-Some-look_for-clause-gives
returns-in-Some-look_for-clause-gives c =
    step-moves c.in-Some-look_for.found c.args.other c.args.row c.args.trail.now.depth c.args.rows.now.entries c.transfer-in-Some-look_for.new.rows.entries (bare c.args.lists.now) (bare c.transfer-in-Some-look_for.new.lists) c.args.trail.now.steps c.in-Some-look_for.ensures.some
    (rw c.look_for-in-False.ensures.same at c.transfer-in-Some-look_for.ensures.entries) c.transfer-in-Some-look_for.ensures.lists

pub transfer-requires-clause-room : goal.transfer-requires-clause-room
transfer-requires-clause-room c = c.requires.room c.in-Some.found c.in-Some.ensures.some.0 c.in-Some.ensures.some.1 c.in-Some.ensures.some.2

pub transfer-requires-in-Some-look_for-clause-room : goal.transfer-requires-in-Some-look_for-clause-room
transfer-requires-in-Some-look_for-clause-room c = c.requires.room c.in-Some-look_for.found c.in-Some-look_for.ensures.some.0 c.in-Some-look_for.ensures.some.1 c.in-Some-look_for.ensures.some.2

pub returns-in-None-clause-gives : goal.returns-in-None-clause-gives
returns-in-None-clause-gives c =
    step-implies c.args.other c.args.row c.args.trail.now.depth c.args.rows.now.entries c.look_for.new.rows.entries (bare c.args.lists.now) c.args.trail.now.steps c.assign.new.self.steps c.look_for.ensures.same c.in-Open.ensures c.in-None.ensures.none
    (ap (λ (t : Assigned). t.steps) c.assign.ensures.steps)

pub returns-in-None-look_for-clause-gives : goal.returns-in-None-look_for-clause-gives
returns-in-None-look_for-clause-gives c =
    step-false c.args.other c.args.row c.args.trail.now.depth c.args.rows.now.entries c.look_for-in-False.new.rows.entries (bare c.args.lists.now) c.args.trail.now.steps c.look_for-in-False.ensures.same c.in-False.ensures.0 c.in-None-look_for.ensures.none
