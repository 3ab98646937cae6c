use Rattle.clause_store.proofs.Outlasting.{choice-awake, choice-waits}
use Rattle.clause_store.proofs.choose.choose.Goals as goal

pub returns-in-Some : goal.returns-in-Some
returns-in-Some c =
    let f = c.in-Some.ensures.some in
    choice-awake c.args.trail.now.steps c.args.literals.now c.args.trail.now.depth c.last-first.result c.in-Some.second c.steps-steps.ensures.deepest c.last-first.ensures.contained c.last-first.ensures.last f.0 f.1 f.2

pub returns-in-None : goal.returns-in-None
returns-in-None c =
    choice-waits c.args.trail.now.steps c.args.literals.now c.last-first.result c.another-second.result c.false_from-from.result c.last-first.ensures.contained c.last-first.ensures.last c.another-second.ensures.contained
    c.another-second.ensures.single c.another-second.ensures.last c.false_from-from.ensures.single c.false_from-from.ensures.from
