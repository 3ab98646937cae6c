use Rattle.std.proofs.Common.{◌∙◌}
use Rattle.smt_top.proofs.Written.{written_after, tally_kept, written_kept}
use Rattle.smt_top.proofs.serving.Server.write.Goals as goal

pub returns-in-Some-clause-written : goal.returns-in-Some-clause-written
returns-in-Some-clause-written g c before entries had = written_after c.put.result before _ _ entries _ _ c.in-Some.ensures.some had c.put.ensures.written

pub returns-clause-written : goal.returns-clause-written
returns-clause-written g c before entries had =
    let made = rw c.new-made.ensures at c.in_ok-text.ensures.ok in
    written_after c.put-2.result before _ _ entries _ _ (c.as_slice.ensures ∙ made) had c.put-2.ensures.written

pub returns-in_err-text-clause-tally : goal.returns-in_err-text-clause-tally
returns-in_err-text-clause-tally g c entries tallied = tally_kept c.from_residual-in_err-text.result c.args.self.now entries _ c.from_residual-in_err-text.ensures.1 tallied

pub returns-in_err-text-clause-written : goal.returns-in_err-text-clause-written
returns-in_err-text-clause-written g c before entries had = written_kept c.from_residual-in_err-text.result before _ entries _ c.from_residual-in_err-text.ensures.1 had
