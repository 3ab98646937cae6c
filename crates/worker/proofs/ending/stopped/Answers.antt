use Rattle.std.proofs.Common.{refl}
use Rattle.worker.proofs.Showing.{past_range}
use Rattle.worker.proofs.ending.stopped.Goals as goal

pub returns-in-Some-clause-report : goal.returns-in-Some-clause-report
returns-in-Some-clause-report g c =
    let s = c.args.stack.now in
    let t = g.T.Theory.state c.args.theory in
    (refl, past_range c.flat_says_the_same.ensures s t c.show-branches.result c.in-Some.seen c.requires.trees c.requires.frames c.show-branches.ensures c.in-Some.is)

pub returns-in-Some-clause-memory : goal.returns-in-Some-clause-memory
returns-in-Some-clause-memory g c =
    let s = c.args.stack.now in
    let t = g.T.Theory.state c.args.theory in
    λ free unlimited. absurd (c.nothing_leaves_range.ensures s c.show-branches.result.branches c.in-Some.seen c.laws.ensures free
    (past_range c.flat_says_the_same.ensures s t c.show-branches.result c.in-Some.seen c.requires.trees c.requires.frames c.show-branches.ensures c.in-Some.is))
