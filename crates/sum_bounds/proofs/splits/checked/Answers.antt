use Rattle.sum_bounds.proofs.SplitLaws.{keeps_bounds}
use Rattle.sum_bounds.proofs.splits.checked.Goals as goal

pub returns-clause-keeps : goal.returns-clause-keeps
returns-clause-keeps c = keeps_bounds c.args.copy.now c.check.new.self c.check.ensures.search.run.bounds
