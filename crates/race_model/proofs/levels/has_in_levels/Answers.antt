use Rattle.std.proofs.Common.{rules}
use Rattle.race_model.proofs.LevelLemmas.{found_in, not_in_first}
use Rattle.race_model.proofs.levels.has_in_levels.Goals as goal

pub returns-then-has : goal.returns-then-has
returns-then-has c = found_in c.args.id c.args.levels.now c.loop-first.rest.now c.in-Some.tail.now c.in-Some.first.now (search rules) c.loop-first.invariant (cc)

pub loop-first-preserved : goal.loop-first-preserved
loop-first-preserved c = not_in_first c.args.id c.args.levels.now c.loop-first.rest.now c.in-Some.tail.now c.in-Some.first.now (search rules) c.loop-first.invariant (cc)
