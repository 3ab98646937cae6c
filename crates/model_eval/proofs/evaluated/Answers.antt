use Rattle.std.proofs.Common.{◌≡◌, ◌<◌, length, subst, arith}
use Rattle.std.proofs.lemmas.Result.{err_from_is_err_and}
use Rattle.smt_meaning.specs.Interpretation.{meaning}
use Rattle.model_eval.specs.Parts.{AreTheirParts}
use Rattle.model_eval.specs.Walk.{is_marked, parts_below}
use Rattle.model_eval.proofs.KeepLemmas.{cause_of}
use Rattle.model_eval.proofs.PartLemmas.{at_most_one, counted_more, few_below, all_parts}
use Rattle.model_eval.proofs.evaluated.Goals as goal

pub add-requires-clause-closed : goal.add-requires-clause-closed
add-requires-clause-closed g c = rw c.deref.ensures.value (λ h. c.in_ok-marks.ensures.marked.closed c.loop-id.id (omega arith) h)

pub returns-in_err-add-clause-cause : goal.returns-in_err-add-clause-cause
returns-in_err-add-clause-cause g c =
    let p = err_from_is_err_and c.from_residual-in_err-add.result c.from_residual-in_err-add.ensures.1 in
    let short : c.loop-id.id < length c.args.store.now.trees = grind arith in
    rw (p.1, p.2)
    (cause_of (meaning c.args.interp.now) c.args.store.now.trees c.args.terms.now _ c.in_ok-marks.marks.items c.loop-id.found.slots.items c.loop-id.found.values.items
    c.in_ok-marks.ensures.marked c.len-known.ensures.different c.requires c.loop-id.invariant.kept c.loop-id.id _ c.loop-id.invariant.next short (rw (c.deref.ensures.value, c.in_ok-tables.ensures) at c.in_err-add.ensures.err))

pub loop-id-preserved : goal.loop-id-preserved
loop-id-preserved g c = record {
  next = c.in_ok-add.ensures.next;
  kept = rw (← c.deref.ensures.value, ← c.in_ok-tables.ensures) c.in_ok-add.ensures.kept;
  steps =
      counted_more c.args.store.now.trees c.in_ok-marks.marks.items c.loop-id.id c.args.steps.now c.loop-id.steps c.add.new.steps c.loop-id.invariant.steps
      (rw (← c.deref.ensures.value) c.add.ensures.step);
}

pub returns-in_err-add-clause-few : goal.returns-in_err-add-clause-few
returns-in_err-add-clause-few g c n h =
    let before = few_below c.args.store.now.trees c.in_ok-marks.marks.items c.loop-id.id in
    let steps = c.loop-id.invariant.steps in
    let step = c.add.ensures.step in
    let one = at_most_one (is_marked c.deref.result.now c.loop-id.id) in
    let least = c.in_ok-marks.ensures.least n h in
    let less : c.loop-id.id < length c.in_ok-marks.marks.items = grind arith in
    omega arith

pub returns-clause-few : goal.returns-clause-few
returns-clause-few g c n h =
    let all = few_below c.args.store.now.trees c.in_ok-marks.marks.items c.loop-id.id in
    let steps = c.loop-id.invariant.steps in
    let least = c.in_ok-marks.ensures.least n h in
    let last : c.loop-id.id ≡ length c.in_ok-marks.marks.items = grind arith in
    omega arith

pub returns-clause-counted : goal.returns-clause-counted
returns-clause-counted g c =
    let last : length c.in_ok-marks.marks.items ≡ c.loop-id.id = grind arith in (
      parts_below c.args.store.now.trees c.in_ok-marks.marks.items c.loop-id.id,
      subst (λ n. AreTheirParts c.args.store.now.trees c.args.terms.now (parts_below c.args.store.now.trees c.in_ok-marks.marks.items n)) last
          (all_parts c.args.store.now.trees c.args.terms.now (length c.in_ok-marks.marks.items) c.in_ok-marks.marks.items c.in_ok-marks.ensures.marked c.len-known.ensures.different c.requires
          (c.in_ok-marks.ensures.within)),
      c.loop-id.invariant.steps,
    )
