use Rattle.std.proofs.Common.{◌<◌, ◌≤◌, length, sym, ◌∙◌, arith}
use Rattle.proof_form.proofs.Going.{none_added, adds_on, adds_not, adds_all}
use Rattle.proof_form.proofs.whole.add_terms.Goals as goal

pub loop-next-init : goal.loop-next-init
loop-next-init c =
    record { within = c.requires.within; few = omega arith; added = none_added _ c.args.terms.now c.requires.none.0 c.requires.none.1 }

pub next_place-requires-clause-within : goal.next_place-requires-clause-within
next_place-requires-clause-within c = c.loop-next.invariant.within

pub add_term-requires-clause-declared : goal.add_term-requires-clause-declared
add_term-requires-clause-declared c = c.requires.declared ∙ sym c.loop-next.invariant.added.declared

pub returns-then-not-branch : goal.returns-then-not-branch
returns-then-not-branch c =
    adds_not c.args.terms.now.declared c.args.terms.now.held c.args.proof.now c.args.place c.loop-next.place c.in-Some.next c.loop-next.number c.loop-next.terms c.add_term.new.terms
    c.in-Some.ensures.some.0 c.loop-next.invariant c.in-Some.ensures.some.1 (rw c.if-not-branch.true at (c.in_ok-add_term.ensures c.in-Some.ensures.some.0 _ c.in-Some.ensures.some.1))

pub overflow_add-number : goal.overflow_add-number
overflow_add-number c =
    let few : c.loop-next.number ≤ c.loop-next.place = c.loop-next.invariant.few in
    let less : c.loop-next.place < c.in-Some.next = c.in-Some.ensures.order.0 in
    let small : c.in-Some.next ≤ length c.args.proof.now = c.in-Some.ensures.order.1 in
    omega (arith, few, less, c.next_place.type_inv)

pub loop-next-smaller : goal.loop-next-smaller
loop-next-smaller c =
    let less : c.loop-next.place < c.in-Some.next = c.in-Some.ensures.order.0 in
    let within : c.in-Some.next ≤ length c.args.proof.now = c.in-Some.ensures.order.1 in
    omega (arith, less, within)

pub loop-next-preserved : goal.loop-next-preserved
loop-next-preserved c =
    adds_on c.args.terms.now.declared c.args.terms.now.held c.args.proof.now c.args.place c.loop-next.place c.in-Some.next c.loop-next.number c.loop-next.terms c.add_term.new.terms
    c.in-Some.ensures.some.0 c.loop-next.invariant c.in-Some.ensures.some.1 c.in-Some.ensures.order.0 c.in-Some.ensures.order.1
    (rw c.if-not-branch.false at (c.in_ok-add_term.ensures c.in-Some.ensures.some.0 _ c.in-Some.ensures.some.1))

pub returns : goal.returns
returns c = (c.loop-next.number, adds_all c.args.terms.now.declared c.args.terms.now.held c.args.proof.now c.args.place c.loop-next.place c.loop-next.number c.loop-next.terms c.loop-next.invariant c.in_default.ensures.none)
