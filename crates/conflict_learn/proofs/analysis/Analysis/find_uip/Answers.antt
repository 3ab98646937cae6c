use Rattle.std.proofs.Common.{◌≡◌, ◌+◌, ◌-◌, ◌<◌, ◌∙◌, subst, sym, arith}
use Rattle.conflict_learn.specs.Analysing.{IsAt}
use Rattle.conflict_learn.proofs.Descent.{passed, only_here, pending_place}
use Rattle.conflict_learn.proofs.analysis.Analysis.find_uip.Goals as goal

pub returns-then-waits_deep : goal.returns-then-waits_deep
returns-then-waits_deep c =
    let e : c.loop-i.i ≡ c.loop-i.i - 1 + 1 = omega arith in
    let at : IsAt c.args.store.now.trail.steps c.args.self.now (c.loop-i.i - 1 + 1) = subst (IsAt c.args.store.now.trail.steps c.args.self.now) e c.loop-i.invariant.at in
    only_here c.args.store.now.trail.steps c.args.self.now (c.loop-i.i - 1) (omega arith) at c.requires.one (sym c.waits_deep.ensures ∙ c.if-waits_deep.true)

pub loop-i-preserved : goal.loop-i-preserved
loop-i-preserved c =
    let e : c.loop-i.i ≡ c.loop-i.i - 1 + 1 = omega arith in
    let at : IsAt c.args.store.now.trail.steps c.args.self.now (c.loop-i.i - 1 + 1) = subst (IsAt c.args.store.now.trail.steps c.args.self.now) e c.loop-i.invariant.at in
    record {
      at = passed c.args.store.now.trail.steps c.args.self.now (c.loop-i.i - 1) at (sym c.waits_deep.ensures ∙ c.if-waits_deep.false);
      within = omega arith;
    }

pub returns : goal.returns
returns c =
    let e : c.loop-i.i ≡ 0 = omega arith in
    let lt : 0 < c.loop-i.i = pending_place c.args.store.now.trail.steps c.args.self.now c.loop-i.i c.loop-i.invariant.at (omega arith) in
    absurd (omega arith)
