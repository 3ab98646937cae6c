use Rattle.std.proofs.Common.{ap}
use Rattle.smt_reader.proofs.Unreads.{found_in, answers_ready, answers_fault, answers_need_more, takes}
use Rattle.smt_reader.proofs.reader.Reader.next.Goals as goal

pub returns-in-Ready-clause-answer : goal.returns-in-Ready-clause-answer
returns-in-Ready-clause-answer c =
    let r = c.self.inside in
    let items = r.bytes.items in
    let found = found_in _ items r.at _ _ _ _ c.deref.ensures.value (ap (λ u. u.finished) c.self.view_is) c.in-Ready.is c.in_ok-sexpr.ensures.finds in
    answers_ready c.args.self.now items r.base r.at (ap (λ u. u.bytes) c.self.view_is) (ap (λ u. u.place) c.self.view_is) c.self.invariant.within c.in-Ready.sexpr c.in-Ready.used found

pub returns-in-Ready-clause-left : goal.returns-in-Ready-clause-left
returns-in-Ready-clause-left c =
    let r = c.self.inside in
    let items = r.bytes.items in
    let found = found_in _ items r.at _ _ _ _ c.deref.ensures.value (ap (λ u. u.finished) c.self.view_is) c.in-Ready.is c.in_ok-sexpr.ensures.finds in
    takes c.args.self.now items r.base r.at (ap (λ u. u.bytes) c.self.view_is) (ap (λ u. u.place) c.self.view_is) c.self.invariant.within c.in-Ready.sexpr c.in-Ready.used r.finished (ap (λ u. u.finished) c.self.view_is) found

pub returns-in-Fault-clause-answer : goal.returns-in-Fault-clause-answer
returns-in-Fault-clause-answer c =
    let r = c.self.inside in
    let items = r.bytes.items in
    let found = found_in _ items r.at _ _ _ _ c.deref.ensures.value (ap (λ u. u.finished) c.self.view_is) c.in-Fault.is c.in_ok-sexpr.ensures.finds in
    answers_fault c.args.self.now items r.base r.at (ap (λ u. u.bytes) c.self.view_is) (ap (λ u. u.place) c.self.view_is) c.self.invariant.within c.in-Fault.kind c.in-Fault.place found

pub returns-in-NeedMore-clause-answer : goal.returns-in-NeedMore-clause-answer
returns-in-NeedMore-clause-answer c =
    let r = c.self.inside in
    let items = r.bytes.items in
    let found = found_in _ items r.at _ _ _ _ c.deref.ensures.value (ap (λ u. u.finished) c.self.view_is) c.in-NeedMore.is c.in_ok-sexpr.ensures.finds in
    answers_need_more c.args.self.now items r.base r.at (ap (λ u. u.bytes) c.self.view_is) (ap (λ u. u.place) c.self.view_is) c.self.invariant.within found
