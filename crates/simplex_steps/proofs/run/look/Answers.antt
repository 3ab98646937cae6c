use Rattle.simplex_steps.proofs.run.look.Goals as goal

pub returns-in-Some-clause-ends : goal.returns-in-Some-clause-ends
returns-in-Some-clause-ends c = c.crossing.ensures.ends c.args.tableau.now
