use Rattle.portfolio.proofs.Parts.{boxed_ends_ok}
use Rattle.portfolio.proofs.race.check.Goals as goal

pub returns-clause-boxed : goal.returns-clause-boxed
returns-clause-boxed g c = boxed_ends_ok c.boxed_stacks_are_not_spent.ensures.boxed c.args.settings.now.workers c.args.stack.now.trees c.args.stack.now.frames c.args.settings.now.units c.race.result c.race.ensures.verdict
