use Rattle.std.proofs.Common.{◌≤◌, ◌<◌, length, arith}
use Rattle.std.proofs.lemmas.List.{drop_all}
use Rattle.elaborate.specs.Judged.{scope_of, rules_of}
use Rattle.elaborate.specs.Frames.{walk_of}
use Rattle.elaborate.proofs.Runs.{taken_at, grown_self, grown_on}
use Rattle.elaborate.proofs.Named.{begins, goes_in, stops_in, ends_in}
use Rattle.elaborate.proofs.naming.read_named.Goals as goal

pub loop-place-init : goal.loop-place-init
loop-place-init c = (begins (rules_of c.args.rules) c.args.term.now (scope_of c.args.table.now c.args.store.now.trees) c.args.walk.now c.requires.stands, (grown_self c.args.store.now, λ t h. h))

pub turn-requires-clause-stands : goal.turn-requires-clause-stands
turn-requires-clause-stands c = c.loop-place.invariant.0.stands

pub returns-in-Err-clause-comes : goal.returns-in-Err-clause-comes
returns-in-Err-clause-comes c =
    let short : c.loop-place.place < length c.args.term.now = omega arith in
    let k = taken_at c.args.term.now c.loop-place.place short in
    stops_in (rules_of c.args.rules) c.args.term.now (scope_of c.args.table.now c.args.store.now.trees) (walk_of c.args.term.now (scope_of c.args.table.now c.args.store.now.trees) c.args.walk.now) c.loop-place.place c.loop-place.walk c.turn.new.walk (scope_of c.loop-place.table c.loop-place.store.trees) (scope_of c.turn.new.table c.turn.new.store.trees) (scope_of c.turn.new.table c.turn.new.store.trees) k.0 c.in-Err.error c.loop-place.invariant.0 k.1
    (c.in-Err.ensures.comes k.0 k.1)

pub returns-in-Err-clause-longer : goal.returns-in-Err-clause-longer
returns-in-Err-clause-longer c = grown_on c.args.store.now c.loop-place.store c.turn.new.store c.loop-place.invariant.1.0 c.turn.ensures.longer

pub returns-in-Err-clause-gained : goal.returns-in-Err-clause-gained
returns-in-Err-clause-gained c = λ t h. c.turn.ensures.gained t (c.loop-place.invariant.1.1 t h)

pub loop-place-preserved : goal.loop-place-preserved
loop-place-preserved c =
    let short : c.loop-place.place < length c.args.term.now = omega arith in
    let k = taken_at c.args.term.now c.loop-place.place short in (
      goes_in (rules_of c.args.rules) c.args.term.now (scope_of c.args.table.now c.args.store.now.trees) (walk_of c.args.term.now (scope_of c.args.table.now c.args.store.now.trees) c.args.walk.now) c.loop-place.place c.loop-place.walk c.turn.new.walk (scope_of c.loop-place.table c.loop-place.store.trees) (scope_of c.turn.new.table c.turn.new.store.trees) k.0 tt c.loop-place.invariant.0 k.1 (c.in-Ok.ensures.comes k.0 k.1),
      (grown_on c.args.store.now c.loop-place.store c.turn.new.store c.loop-place.invariant.1.0 c.turn.ensures.longer, λ t h. c.turn.ensures.gained t (c.loop-place.invariant.1.1 t h)),
    )

pub returns-clause-comes : goal.returns-clause-comes
returns-clause-comes c =
    let done' : length c.args.term.now ≤ c.loop-place.place = omega arith in
    ends_in (rules_of c.args.rules) c.args.term.now (scope_of c.args.table.now c.args.store.now.trees) (walk_of c.args.term.now (scope_of c.args.table.now c.args.store.now.trees) c.args.walk.now) c.loop-place.place c.loop-place.walk (scope_of c.loop-place.table c.loop-place.store.trees) tt c.loop-place.invariant.0 (drop_all c.loop-place.place c.args.term.now done')

pub returns-clause-longer : goal.returns-clause-longer
returns-clause-longer c = c.loop-place.invariant.1.0

pub returns-clause-gained : goal.returns-clause-gained
returns-clause-gained c = c.loop-place.invariant.1.1
