use Rattle.std.proofs.Common.{◌≤◌, ◌<◌, length, arith}
use Rattle.std.proofs.lemmas.List.{drop_all}
use Rattle.elaborate.specs.Judged.{scope_of, rules_of}
use Rattle.elaborate.specs.Frames.{walk_of}
use Rattle.elaborate.proofs.Runs.{starts, taken_at, goes, stops, ends_so, grown_self, grown_on}
use Rattle.elaborate.proofs.read.read.Goals as goal

pub loop-place-init : goal.loop-place-init
loop-place-init c = (starts (rules_of c.args.rules) c.args.term.now (scope_of c.args.table.now c.args.store.now.trees) c.args.walk.now c.requires.stands, (grown_self c.args.store.now, c.requires.apart))

pub step_apart-requires-clause-stands : goal.step_apart-requires-clause-stands
step_apart-requires-clause-stands c = c.loop-place.invariant.0.stands

pub returns-in-Err-clause-comes : goal.returns-in-Err-clause-comes
returns-in-Err-clause-comes c =
    let short : c.loop-place.place < length c.args.term.now = omega arith in
    let k = taken_at c.args.term.now c.loop-place.place short in
    stops (rules_of c.args.rules) c.args.term.now (scope_of c.args.table.now c.args.store.now.trees) (walk_of c.args.term.now (scope_of c.args.table.now c.args.store.now.trees) c.args.walk.now) c.loop-place.place c.loop-place.walk c.step_apart.new.walk c.loop-place.store.trees (scope_of c.args.table.now c.step_apart.new.store.trees) (scope_of c.args.table.now c.step_apart.new.store.trees) k.0 c.in-Err.error c.loop-place.invariant.0 k.1
    (c.in-Err.ensures.comes k.0 k.1)

pub returns-in-Err-clause-longer : goal.returns-in-Err-clause-longer
returns-in-Err-clause-longer c = grown_on c.args.store.now c.loop-place.store c.step_apart.new.store c.loop-place.invariant.1.0 c.step_apart.ensures.longer

pub loop-place-preserved : goal.loop-place-preserved
loop-place-preserved c =
    let short : c.loop-place.place < length c.args.term.now = omega arith in
    let k = taken_at c.args.term.now c.loop-place.place short in (
      goes (rules_of c.args.rules) c.args.term.now (scope_of c.args.table.now c.args.store.now.trees) (walk_of c.args.term.now (scope_of c.args.table.now c.args.store.now.trees) c.args.walk.now) c.loop-place.place c.loop-place.walk c.step_apart.new.walk c.loop-place.store.trees c.step_apart.new.store.trees k.0 tt c.loop-place.invariant.0 k.1 (c.in-Ok.ensures.comes k.0 k.1),
      (grown_on c.args.store.now c.loop-place.store c.step_apart.new.store c.loop-place.invariant.1.0 c.step_apart.ensures.longer, c.step_apart.ensures.apart),
    )

pub returns-clause-comes : goal.returns-clause-comes
returns-clause-comes c =
    let done' : length c.args.term.now ≤ c.loop-place.place = omega arith in
    ends_so (rules_of c.args.rules) c.args.term.now (scope_of c.args.table.now c.args.store.now.trees) (walk_of c.args.term.now (scope_of c.args.table.now c.args.store.now.trees) c.args.walk.now) c.loop-place.place c.loop-place.walk c.loop-place.store.trees tt c.loop-place.invariant.0 (drop_all c.loop-place.place c.args.term.now done')

pub returns-clause-longer : goal.returns-clause-longer
returns-clause-longer c = c.loop-place.invariant.1.0
