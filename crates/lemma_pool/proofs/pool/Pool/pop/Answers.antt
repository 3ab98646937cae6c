use Rattle.std.proofs.Common.{◌≡◌, ◌-◌, length, subst, sym, arith}
use Rattle.lemma_pool.specs.Pools.{cut_base, IsCut}
use Rattle.lemma_pool.specs.State.{state_of}
use Rattle.lemma_pool.proofs.Kept.{levels_kept, pop_step}
use Rattle.lemma_pool.proofs.pool.Pool.pop.Goals as goal

pub overflow_sub-kept : goal.overflow_sub-kept
overflow_sub-kept g c =
    let p = c.args.self.now in
    let size = levels_kept (g.K.Framed.base p.stack.value) p.levels p.standing in
    omega arith

pub returns-clause-cut : goal.returns-clause-cut
returns-clause-cut g c =
    let p = c.args.self.now in
    let size : p.levels ≡ length (cut_base p.levels (g.K.Framed.base p.stack.value)).frames = sym (levels_kept (g.K.Framed.base p.stack.value) p.levels p.standing) in
    subst (λ n. IsCut (n - c.args.count) (state_of p) (state_of c.keep.new.self)) size c.keep.ensures

pub returns-clause-step : goal.returns-clause-step
returns-clause-step g c =
    let p = c.args.self.now in
    let size : p.levels ≡ length (cut_base p.levels (g.K.Framed.base p.stack.value)).frames = sym (levels_kept (g.K.Framed.base p.stack.value) p.levels p.standing) in
    pop_step (state_of p) (state_of c.keep.new.self) c.args.count c.requires (subst (λ n. IsCut (n - c.args.count) (state_of p) (state_of c.keep.new.self)) size c.keep.ensures)
