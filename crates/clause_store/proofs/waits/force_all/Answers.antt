use Rattle.std.proofs.Common.{take, arith, true, subst, ◌∙◌}
use Rattle.std.proofs.lemmas.List.Elements.{All-contains}
use Rattle.clause_store.specs.Rested.{IsWaiting}
use Rattle.clause_store.specs.Forcing.{ForceGives, AllForced}
use Rattle.clause_store.specs.Trail.{Assigns}
use Rattle.clause_store.specs.declared.waits.Wait.{Wait}
use Rattle.clause_store.proofs.Loops.{take_whole, All-grown, item_in}
use Rattle.clause_store.proofs.Forces.{force-more, force-grows, AllForced-more}
use Rattle.clause_store.proofs.waits.force_all.Goals as goal

pub returns-then-not-force-clause-more : goal.returns-then-not-force-clause-more
returns-then-not-force-clause-more c = λ l a.
    force-more c.wait-item.result c.loop-wait.trail.depth c.loop-wait.trail.steps c.force.new.trail.steps c.force.result c.force.ensures.gives l (c.loop-wait.invariant.more l a)

pub loop-wait-preserved : goal.loop-wait-preserved
loop-wait-preserved c =
    let done : ForceGives c.wait-item.result c.loop-wait.trail.depth c.loop-wait.trail.steps c.force.new.trail.steps true =
    subst (ForceGives c.wait-item.result c.loop-wait.trail.depth c.loop-wait.trail.steps c.force.new.trail.steps) c.if-not-force.false c.force.ensures.gives in
    record {
      grows = λ es waits.
          force-grows es c.wait-item.result c.args.trail.now.depth c.args.trail.now.steps c.loop-wait.trail.steps c.force.new.trail.steps true
          (All-contains (IsWaiting es c.args.trail.now.steps) c.args.waiting.now c.wait-item.result waits (item_in c.args.waiting.now c.loop-wait.wait-index c.wait-item.result (omega arith) c.wait-item.is))
          c.loop-wait.invariant.more (c.loop-wait.invariant.grows es waits)
          (subst (λ d. ForceGives c.wait-item.result d c.loop-wait.trail.steps c.force.new.trail.steps true) c.loop-wait.invariant.depth done);
      more = λ l a. force-more c.wait-item.result c.loop-wait.trail.depth c.loop-wait.trail.steps c.force.new.trail.steps true done l (c.loop-wait.invariant.more l a);
      forced = All-grown (λ (w : Wait). Assigns c.force.new.trail.steps w.literal) c.args.waiting.now c.loop-wait.wait-index c.wait-item.result (omega arith) c.wait-item.is
          (AllForced-more c.loop-wait.trail.steps c.force.new.trail.steps (take c.loop-wait.wait-index c.args.waiting.now) (λ l a. force-more c.wait-item.result c.loop-wait.trail.depth c.loop-wait.trail.steps c.force.new.trail.steps true done l a) c.loop-wait.invariant.forced)
          done.0;
      atoms = c.force.ensures.same.0 ∙ c.loop-wait.invariant.atoms;
      depth = c.force.ensures.same.1 ∙ c.loop-wait.invariant.depth;
    }

pub returns-clause-none : goal.returns-clause-none
returns-clause-none c =
    take_whole (AllForced c.loop-wait.trail.steps) c.args.waiting.now c.loop-wait.wait-index (omega arith) (omega arith) c.loop-wait.invariant.forced
