use Rattle.std.proofs.Common.{arith}
use Rattle.lemma_pool.specs.State.{state_of}
use Rattle.lemma_pool.proofs.Kept.{levels_kept, assert_grows, assert_levels, assert_step}
use Rattle.lemma_pool.proofs.pool.Pool.assert.Goals as goal

pub follow-requires-clause-grows : goal.follow-requires-clause-grows
follow-requires-clause-grows g c = assert_grows (state_of c.args.self.now) c.requires.0 (g.K.Framed.base c.args.stack.now) c.requires.1

pub follow-requires-clause-levels : goal.follow-requires-clause-levels
follow-requires-clause-levels g c =
    let p = c.args.self.now in
    let size = levels_kept (g.K.Framed.base p.stack.value) p.levels p.standing in
    let all = assert_levels (state_of p) c.requires.0 (g.K.Framed.base c.args.stack.now) c.requires.1 in
    omega arith

pub returns-clause-step : goal.returns-clause-step
returns-clause-step g c = (c.requires.0, assert_step (state_of c.args.self.now) (state_of c.follow.new.self) c.requires.0 (g.K.Framed.base c.args.stack.now) c.requires.1 c.follow.ensures.base c.follow.ensures.same)
