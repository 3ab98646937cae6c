use Rattle.std.proofs.Common.{[]}
use Rattle.smt_laws.specs.Flat.{flat}
use Rattle.worker.proofs.SameStack.{past_by}
use Rattle.worker.proofs.report.out_of_range.Goals as goal

pub plain_report-requires : goal.plain_report-requires
plain_report-requires c =
    let s = c.args.stack.now in
    let same = c.flat_says_the_same.ensures s.frames in
    past_by s.trees (flat s.frames) s.frames same.signature same.assertions [] c.args.seen c.requires

pub returns-clause-memory : goal.returns-clause-memory
returns-clause-memory c =
    let s = c.args.stack.now in
    let same = c.flat_says_the_same.ensures s.frames in
    λ free unlimited. absurd (c.nothing_leaves_range.ensures s [] c.args.seen c.laws.ensures free (past_by s.trees (flat s.frames) s.frames same.signature same.assertions [] c.args.seen c.requires))
