use Rattle.std.proofs.Common.{arith}
use Rattle.smt_reader.proofs.Skipped.{blank_reading, blank_skips, comment_reading, comment_skips}
use Rattle.smt_reader.proofs.reader.Reader.skip.Goals as goal

pub invariant_of-self : goal.invariant_of-self
invariant_of-self c =
    let r = c.self.inside in
    blank_reading r.bytes.items r.base r.at r.scan c.self.invariant (omega arith) _ c.in-Blank.is c.resume.ensures

pub invariant_of-self-then-self-gt0-2 : goal.invariant_of-self-then-self-gt0-2
invariant_of-self-then-self-gt0-2 c =
    let r = c.self.inside in
    comment_reading r.bytes.items r.base r.at r.scan c.self.invariant (omega arith) c.if-self-gt0-2.true _ c.in-Comment.is c.resume-in-Comment.ensures

pub returns-in-Blank : goal.returns-in-Blank
returns-in-Blank c =
    let r = c.self.inside in
    blank_skips r.bytes.items r.base r.at r.scan c.self.invariant (omega arith) c.args.self.now r.finished c.self.view_is c.in-Blank.is

pub returns-in-Comment : goal.returns-in-Comment
returns-in-Comment c =
    let r = c.self.inside in
    comment_skips r.bytes.items r.base r.at r.scan c.self.invariant (omega arith) c.if-self-gt0-2.true c.args.self.now r.finished c.self.view_is c.in-Comment.is
