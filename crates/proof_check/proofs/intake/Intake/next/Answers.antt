use Rattle.std.proofs.Common.{arith, refl, ◌∙◌}
use Rattle.std.proofs.lemmas.Result.{err_from_is_err_and}
use Rattle.proof_check.specs.Progress.{IsOpenAt}
use Rattle.proof_check.proofs.Takings.{read_of, cut_by_memory, end_next, fault_next, read_next, skipped, none_skipped, room_skipped}
use Rattle.proof_check.proofs.intake.Intake.next.Goals as goal

pub returns-in_err-sexpr-clause-next : goal.returns-in_err-sexpr-clause-next
returns-in_err-sexpr-clause-next g c =
    let e = err_from_is_err_and c.from_residual.result c.from_residual.ensures.1 in
    rw (e.1, e.2) (λ budget first p s. cut_by_memory budget first _ (IsOpenAt p) (read_of budget first _ p c.loop-sexpr.self (c.loop-sexpr.invariant.so_far budget first p s)))

pub returns-in-Ready-clause-next : goal.returns-in-Ready-clause-next
returns-in-Ready-clause-next g c budget first p s =
    read_next budget first _ p c.loop-sexpr.self (c.loop-sexpr.invariant.so_far budget first p s) (record c.loop-sexpr.self { reader = c.next.new.self }) c.in-Ready.sexpr
    (rw c.in-Ready.is at c.in_ok-sexpr.ensures.answer) (rw c.in-Ready.is at c.in_ok-sexpr.ensures.left) refl

pub returns-in-Fault-clause-next : goal.returns-in-Fault-clause-next
returns-in-Fault-clause-next g c budget first p s =
    fault_next budget first _ p c.loop-sexpr.self (c.loop-sexpr.invariant.so_far budget first p s) c.loop-sexpr.self _ _ (rw c.in-Fault.is at c.in_ok-sexpr.ensures.answer)

pub returns-in-End-clause-next : goal.returns-in-End-clause-next
returns-in-End-clause-next g c budget first p s =
    let settled = rw c.in-End.is at c.in_ok-sexpr.ensures.answer in
    end_next budget first _ p c.loop-sexpr.self (c.loop-sexpr.invariant.so_far budget first p s) c.loop-sexpr.self settled.1

pub returns-in_err-take_more-in-NeedMore-clause-next : goal.returns-in_err-take_more-in-NeedMore-clause-next
returns-in_err-take_more-in-NeedMore-clause-next g c =
    let e = err_from_is_err_and c.from_residual-in_err-take_more-in-NeedMore.result c.from_residual-in_err-take_more-in-NeedMore.ensures.1 in
    let skips = rw c.in-NeedMore.is at c.in_ok-sexpr.ensures.left in
    rw (e.1, e.2)
    (λ budget first p s.
    c.in_err-take_more-in-NeedMore.ensures.err budget first p
    (skipped budget first _ p c.loop-sexpr.self (c.loop-sexpr.invariant.so_far budget first p s) (record c.loop-sexpr.self { reader = c.next.new.self }) skips refl))

pub take_more-requires-clause-going : goal.take_more-requires-clause-going
take_more-requires-clause-going g c =
    let skips = rw c.in-NeedMore.is at c.in_ok-sexpr.ensures.left in
    let rightly = rw c.in-NeedMore.is at c.in_ok-sexpr.ensures.answer in
    skips.finished ∙ rightly.0

pub take_more-requires-clause-settled : goal.take_more-requires-clause-settled
take_more-requires-clause-settled g c =
    let skips = rw c.in-NeedMore.is at c.in_ok-sexpr.ensures.left in
    let rightly = rw c.in-NeedMore.is at c.in_ok-sexpr.ensures.answer in
    none_skipped c.loop-sexpr.self.reader c.next.new.self skips rightly.1

pub take_more-requires-clause-room : goal.take_more-requires-clause-room
take_more-requires-clause-room g c =
    let skips = rw c.in-NeedMore.is at c.in_ok-sexpr.ensures.left in
    let room = room_skipped c.loop-sexpr.self (record c.loop-sexpr.self { reader = c.next.new.self }) c.loop-sexpr.invariant.room refl skips in
    room.0

pub loop-sexpr-preserved : goal.loop-sexpr-preserved
loop-sexpr-preserved g c =
    let skips = rw c.in-NeedMore.is at c.in_ok-sexpr.ensures.left in
    let mid = record c.loop-sexpr.self { reader = c.next.new.self } in
    let room = room_skipped c.loop-sexpr.self mid c.loop-sexpr.invariant.room refl skips in
    record {
      room = c.in_ok-take_more-in-NeedMore.ensures.room;
      buffer = omega (arith, c.loop-sexpr.invariant.buffer);
      lighter = omega (arith, c.in_ok-take_more-in-NeedMore.ensures.fewer.1, room.1, c.loop-sexpr.invariant.lighter);
      so_far = λ budget first p s.
          c.in_ok-take_more-in-NeedMore.ensures.ok budget first p (skipped budget first _ p c.loop-sexpr.self (c.loop-sexpr.invariant.so_far budget first p s) mid skips refl);
    }
