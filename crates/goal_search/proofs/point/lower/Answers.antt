use Rattle.smt_meaning.specs.Term.{tree_at}
use Rattle.goal_search.proofs.Above.{at_in_range, carried, lowered}
use Rattle.goal_search.proofs.point.lower.Goals as goal

pub seek-requires-clause-range : goal.seek-requires-clause-range
seek-requires-clause-range g c = at_in_range c.args.bound _ c.requires.bound (carried c.args.bound c.number_at-bound.result c.requires.bound c.number_at-bound.ensures)

pub returns-clause-lowered : goal.returns-clause-lowered
returns-clause-lowered g c =
    let old = c.args.stack.now in
    lowered c.args.settings.now.workers old.trees old.frames c.args.settings.now.units c.args.text.now (tree_at old.trees c.args.term) c.args.bound _ c.seek.result
    (carried c.args.bound c.number_at-bound.result c.requires.bound c.number_at-bound.ensures) c.seek.ensures.step
