use Rattle.std.proofs.Common.{refl, ap, arith}
use Rattle.std.proofs.lemmas.Result.{err_from_is_err_and}
use Rattle.smt_meaning.specs.Reading.{Unread}
use Rattle.smt_top.specs.Progress.{run_of}
use Rattle.smt_top.proofs.Turns.{ends, asks}
use Rattle.smt_top.proofs.Servings.{Next, tally_same, reply_served, reply_torn, fault_served, fault_torn, served_idle, served_short, served_cut, numbered_next}
use Rattle.smt_top.proofs.serving.Server.serve_next.Goals as goal

pub returns-in_ok-write-in-Ready-clause-served : goal.returns-in_ok-write-in-Ready-clause-served
returns-in_ok-write-in-Ready-clause-served g c =
    let settled = rw c.in-Ready.is at c.in_ok-sexpr.ensures.answer in
    let takes = rw c.in-Ready.is at c.in_ok-sexpr.ensures.left in
    let takes' = rw (← c.write.ensures.reader) at takes in
    let replies = rw (← c.write.ensures.session) at c.in_ok-done-in-Ready.ensures.reply in
    rw c.then_some.ensures
    (reply_served c.args.self.now c.write.new.self _ _ _ _ _ _ c.in-Ready.sexpr _ _ _ settled takes' replies c.in_ok-done-in-Ready.ensures.stop
    c.in_ok-write-in-Ready.ensures.gained (λ entries t. c.in_ok-write-in-Ready.ensures.tally entries (tally_same _ _ refl refl entries t)) c.in_ok-write-in-Ready.ensures.silent c.in_ok-write-in-Ready.ensures.written)

pub returns-in_ok-write-in-Fault-clause-served : goal.returns-in_ok-write-in-Fault-clause-served
returns-in_ok-write-in-Fault-clause-served g c =
    let settled = rw c.in-Fault.is at c.in_ok-sexpr.ensures.answer in
    let left = rw c.in-Fault.is at c.in_ok-sexpr.ensures.left in
    let same = rw (← c.write-in-Fault.ensures.reader) at left in
    fault_served c.args.self.now c.write-in-Fault.new.self _ _ _ _ _ _ c.in-Fault.kind c.in-Fault.at settled same
    c.in_ok-write-in-Fault.ensures.gained (λ entries t. c.in_ok-write-in-Fault.ensures.tally entries (tally_same _ _ refl refl entries t)) c.in_ok-write-in-Fault.ensures.silent c.in_ok-write-in-Fault.ensures.written

pub returns-in-NeedMore-clause-served : goal.returns-in-NeedMore-clause-served
returns-in-NeedMore-clause-served g c =
    let settled = rw c.in-NeedMore.is at c.in_ok-sexpr.ensures.answer in
    let left = rw c.in-NeedMore.is at c.in_ok-sexpr.ensures.left in
    let new = record c.args.self.now { reader = c.next.new.self } in
    served_idle c.args.self.now new _ _ _ (Next) refl refl _
    (λ s input entries had. asks s (run_of c.args.self.now entries) (run_of new entries) left refl refl settled.0 settled.1 input had)

pub returns-in-NeedMore-clause-numbered : goal.returns-in-NeedMore-clause-numbered
returns-in-NeedMore-clause-numbered g c =
    let left = rw c.in-NeedMore.is at c.in_ok-sexpr.ensures.left in
    λ asks. omega (arith, c.requires.numbered, left.place, left.shorter)

pub returns-in-End-clause-served : goal.returns-in-End-clause-served
returns-in-End-clause-served g c =
    let settled = rw c.in-End.is at c.in_ok-sexpr.ensures.answer in
    let left = rw c.in-End.is at c.in_ok-sexpr.ensures.left in
    let new = record c.args.self.now { reader = c.next.new.self } in
    served_idle c.args.self.now new _ _ _ (Next) refl refl _
    (λ s input entries had. ends s (run_of c.args.self.now entries) (run_of new entries) settled.1 settled.0 left refl input had)

pub returns-in_err-sexpr-clause-served : goal.returns-in_err-sexpr-clause-served
returns-in_err-sexpr-clause-served g c =
    let p = err_from_is_err_and c.from_residual.result c.from_residual.ensures.1 in
    let same = c.in_err-sexpr.ensures.err in
    rw (p.1, p.2)
    (served_short c.args.self.now (record c.args.self.now { reader = c.next.new.self }) _ _ _ (Next) refl refl (ap (λ (u : Unread). u.finished) same))

pub returns-in_err-done-in-Ready-clause-served : goal.returns-in_err-done-in-Ready-clause-served
returns-in_err-done-in-Ready-clause-served g c =
    let p = err_from_is_err_and c.from_residual-in_err-done-in-Ready.result c.from_residual-in_err-done-in-Ready.ensures.1 in
    let takes = rw c.in-Ready.is at c.in_ok-sexpr.ensures.left in
    rw (p.1, p.2)
    (served_short c.args.self.now (record c.args.self.now { reader = c.next.new.self; session = c.reply_to.new.self }) _ _ _ (Next) refl refl takes.finished)

pub returns-in_err-write-in-Ready-clause-served : goal.returns-in_err-write-in-Ready-clause-served
returns-in_err-write-in-Ready-clause-served g c =
    let p = err_from_is_err_and c.from_residual-in_err-write-in-Ready.result c.from_residual-in_err-write-in-Ready.ensures.1 in
    let settled = rw c.in-Ready.is at c.in_ok-sexpr.ensures.answer in
    let takes = rw c.in-Ready.is at c.in_ok-sexpr.ensures.left in
    let takes' = rw (← c.write.ensures.reader) at takes in
    let replies = rw (← c.write.ensures.session) at c.in_ok-done-in-Ready.ensures.reply in
    rw (p.1, p.2)
    (served_cut c.args.self.now c.write.new.self _ _ _ _ _ _ _ (Next) _
    (reply_torn c.args.self.now c.write.new.self _ _ _ _ _ _ c.in-Ready.sexpr _ _ _ settled takes' replies c.in_ok-done-in-Ready.ensures.stop (Unit {0}) _
    c.in_err-write-in-Ready.ensures.gained (λ entries t. c.in_err-write-in-Ready.ensures.tally entries (tally_same _ _ refl refl entries t)) c.in_err-write-in-Ready.ensures.silent c.in_err-write-in-Ready.ensures.written))

pub returns-in_err-write-in-Fault-clause-served : goal.returns-in_err-write-in-Fault-clause-served
returns-in_err-write-in-Fault-clause-served g c =
    let p = err_from_is_err_and c.from_residual-in_err-write-in-Fault.result c.from_residual-in_err-write-in-Fault.ensures.1 in
    let settled = rw c.in-Fault.is at c.in_ok-sexpr.ensures.answer in
    let left = rw c.in-Fault.is at c.in_ok-sexpr.ensures.left in
    let same = rw (← c.write-in-Fault.ensures.reader) at left in
    rw (p.1, p.2)
    (served_cut c.args.self.now c.write-in-Fault.new.self _ _ _ _ _ _ _ (Next) _
    (fault_torn c.args.self.now c.write-in-Fault.new.self _ _ _ _ _ _ c.in-Fault.kind c.in-Fault.at settled same (Unit {0}) _
    c.in_err-write-in-Fault.ensures.gained (λ entries t. c.in_err-write-in-Fault.ensures.tally entries (tally_same _ _ refl refl entries t)) c.in_err-write-in-Fault.ensures.silent c.in_err-write-in-Fault.ensures.written))

pub returns-in_ok-write-in-Ready-clause-numbered : goal.returns-in_ok-write-in-Ready-clause-numbered
returns-in_ok-write-in-Ready-clause-numbered g c =
    let takes = rw c.in-Ready.is at c.in_ok-sexpr.ensures.left in
    let takes' = rw (← c.write.ensures.reader) at takes in
    rw c.then_some.ensures (numbered_next _ c.write.new.self.count c.write.new.self.reader.place (omega (arith, c.write.ensures.count, c.requires.numbered, takes'.place, takes'.some)))
