use Rattle.std.proofs.Common.{rules, ◌+◌, ◌<◌, length, ◌∙◌, sym, subst, arith}
use Rattle.first_clauses.specs.CheckClausesFirst.{AreReady}
use Rattle.first_clauses.proofs.CheckClausesKeeping.{parts_more}
use Rattle.first_clauses.proofs.Counting.{most_next, most_there, next_takes}
use Rattle.first_clauses.proofs.nodes.keep_parts.Goals as goal

pub keep_place-requires-clause-ready : goal.keep_place-requires-clause-ready
keep_place-requires-clause-ready g c =
    subst (AreReady c.args.stack.now c.args.marks.now c.args.sorts.now c.args.atoms.now.atoms) (sym c.loop-place.invariant.same) c.requires.ready

pub loop-place-preserved : goal.loop-place-preserved
loop-place-preserved g c = record {
  begun = c.in_ok-keep_place.ensures.begun;
  has = parts_more c.args.stack.now c.args.marks.now c.args.sorts.now c.args.atoms.now.atoms c.loop-place.store.clauses c.keep_place.new.store.clauses c.loop-place.place c.keep_place.ensures.stay c.loop-place.invariant.has
      c.in_ok-keep_place.ensures.has;
  same = c.keep_place.ensures.same ∙ c.loop-place.invariant.same;
  rise = omega (arith, c.loop-place.invariant.rise, c.keep_place.ensures.rise);
  few = most_next c.args.stack.now.trees c.args.marks.now c.loop-place.place c.args.steps.now c.loop-place.steps c.keep_place.new.steps c.loop-place.invariant.few c.keep_place.ensures.few;
  counted =
      next_takes c.args.stack.now c.args.marks.now c.args.sorts.now c.loop-place.place c.args.steps.now c.loop-place.steps c.keep_place.new.steps c.loop-place.invariant.counted
      c.in_ok-keep_place.ensures.counted;
}

pub returns-in_err-keep_place-clause-few : goal.returns-in_err-keep_place-clause-few
returns-in_err-keep_place-clause-few g c =
    let trees = c.args.stack.now.trees in
    let marks = c.args.marks.now in
    let inside : c.loop-place.place < length trees = search rules in
    most_there trees marks (c.loop-place.place + 1) (length trees) c.args.steps.now c.keep_place.new.steps (omega (arith, inside))
    (most_next trees marks c.loop-place.place c.args.steps.now c.loop-place.steps c.keep_place.new.steps c.loop-place.invariant.few c.keep_place.ensures.few)
