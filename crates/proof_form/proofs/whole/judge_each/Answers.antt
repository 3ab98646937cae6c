use Rattle.std.proofs.Common.{◌<◌, ◌≤◌, length, refl, sym, ◌∙◌, subst, All, arith}
use Rattle.proof_form.specs.Asserted.{asserted_at}
use Rattle.proof_terms.specs.Terms.{ProofTerms}
use Rattle.proof_form.proofs.Going.{none_run, judged_good, judged_wrong, judged_outside, judged_all}
use Rattle.proof_form.proofs.whole.judge_each.Goals as goal

pub loop-next-init : goal.loop-next-init
loop-next-init c = (
  refl,
  record {
    within = c.requires.within;
    few = omega arith;
    run = none_run c.args.terms.now (asserted_at c.args.terms.now.held c.args.asserted.now) _ c.args.clauses.now c.requires.none;
  },
)

pub next_place-requires-clause-within : goal.next_place-requires-clause-within
next_place-requires-clause-within c = c.loop-next.invariant.1.within

pub judge_at-requires-clause-asserted : goal.judge_at-requires-clause-asserted
judge_at-requires-clause-asserted c = subst (λ (t : ProofTerms). All (λ i. i < length t.held) c.args.asserted.now) (sym c.loop-next.invariant.0) c.requires.asserted

pub returns-in-Wrong : goal.returns-in-Wrong
returns-in-Wrong c =
    judged_wrong c.args.terms.now c.loop-next.terms c.args.asserted.now c.args.proof.now c.args.place c.loop-next.place c.in-Some.next c.loop-next.number c.loop-next.clauses c.judge_at.new.clauses
    c.in-Some.ensures.some.0 c.loop-next.invariant.0 c.loop-next.invariant.1 c.in-Some.ensures.some.1
    (rw c.in-Wrong.is at (c.in_ok-judge_at.ensures.comes c.in-Some.ensures.some.0 _ c.in-Some.ensures.some.1))

pub returns-in-Range : goal.returns-in-Range
returns-in-Range c =
    judged_outside c.args.terms.now c.loop-next.terms c.args.asserted.now c.args.proof.now c.args.place c.loop-next.place c.in-Some.next c.loop-next.number c.loop-next.clauses c.judge_at.new.clauses
    c.in-Some.ensures.some.0 c.loop-next.invariant.0 c.loop-next.invariant.1 c.in-Some.ensures.some.1
    (rw c.in-Range.is at (c.in_ok-judge_at.ensures.comes c.in-Some.ensures.some.0 _ c.in-Some.ensures.some.1))

pub overflow_add-number : goal.overflow_add-number
overflow_add-number c =
    let few : c.loop-next.number ≤ c.loop-next.place = c.loop-next.invariant.1.few in
    let less : c.loop-next.place < c.in-Some.next = c.in-Some.ensures.order.0 in
    omega (arith, few, less)

pub loop-next-smaller : goal.loop-next-smaller
loop-next-smaller c =
    let less : c.loop-next.place < c.in-Some.next = c.in-Some.ensures.order.0 in
    let within : c.in-Some.next ≤ length c.args.proof.now = c.in-Some.ensures.order.1 in
    omega (arith, less, within)

pub loop-next-preserved : goal.loop-next-preserved
loop-next-preserved c = (
  c.in_ok-judge_at.ensures.same ∙ c.loop-next.invariant.0,
  judged_good c.args.terms.now c.loop-next.terms c.args.asserted.now c.args.proof.now c.args.place c.loop-next.place c.in-Some.next c.loop-next.number c.loop-next.clauses c.judge_at.new.clauses
      c.in-Some.ensures.some.0 c.loop-next.invariant.0 c.loop-next.invariant.1 c.in-Some.ensures.some.1 c.in-Some.ensures.order.0 c.in-Some.ensures.order.1
      (rw c.in-Good.is at (c.in_ok-judge_at.ensures.comes c.in-Some.ensures.some.0 _ c.in-Some.ensures.some.1)),
)

pub returns : goal.returns
returns c =
    judged_all c.args.terms.now (asserted_at c.args.terms.now.held c.args.asserted.now) c.args.proof.now c.args.place c.loop-next.place c.loop-next.number c.loop-next.clauses c.end_of.result
    c.loop-next.invariant.1 c.in_default.ensures.none c.end_of.ensures
