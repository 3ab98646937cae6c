use Rattle.std.proofs.Common.{arith}
use Rattle.lemma_pool.specs.State.{state_of}
use Rattle.lemma_pool.proofs.Kept.{levels_kept, push_grows, push_levels, push_step}
use Rattle.lemma_pool.proofs.pool.Pool.push.Goals as goal

pub overflow_add-levels : goal.overflow_add-levels
overflow_add-levels g c =
    let p = c.args.self.now in
    let size = levels_kept (g.K.Framed.base p.stack.value) p.levels p.standing in
    let few = c.requires.allowed.0 in
    omega arith

pub follow-requires-clause-grows : goal.follow-requires-clause-grows
follow-requires-clause-grows g c = push_grows (state_of c.args.self.now) c.args.count (g.K.Framed.base c.args.stack.now) c.requires

pub follow-requires-clause-levels : goal.follow-requires-clause-levels
follow-requires-clause-levels g c =
    let p = c.args.self.now in
    let size = levels_kept (g.K.Framed.base p.stack.value) p.levels p.standing in
    let all = push_levels (state_of p) c.args.count (g.K.Framed.base c.args.stack.now) c.requires in
    omega arith

pub returns-clause-step : goal.returns-clause-step
returns-clause-step g c = push_step (state_of c.args.self.now) (state_of c.follow.new.self) c.args.count (g.K.Framed.base c.args.stack.now) c.requires c.follow.ensures.base c.follow.ensures.same
