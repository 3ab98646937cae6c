use Rattle.portfolio.proofs.decider.ByDecider.decide.Goals as goal

pub returns-clause-verdict : goal.returns-clause-verdict
returns-clause-verdict g c = (c.requires.may c.args.stack c.args.settings c.requires.workers).1 _ c.f.ensures
