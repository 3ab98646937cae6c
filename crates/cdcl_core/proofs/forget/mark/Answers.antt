use Rattle.std.proofs.Common.{List, Contains, subst, sym, ◌∙◌}
use Rattle.std.proofs.lemmas.List.{take_all}
use Rattle.clause_store.specs.declared.trail.Step.{Step}
use Rattle.cdcl_core.proofs.Forgotten.{marked-more}
use Rattle.cdcl_core.proofs.forget.mark.Goals as goal

pub loop-step-preserved : goal.loop-step-preserved
loop-step-preserved c = record {
  marked = marked-more c.args.steps.now c.loop-step.step-index c.step-item.result c.loop-step.marks.items c.mark_one.new.marks.items c.loop-step-test.true c.step-item.is c.loop-step.invariant.marked c.mark_one.ensures.count c.mark_one.ensures.marked c.mark_one.ensures.stay;
  count = c.mark_one.ensures.count ∙ c.loop-step.invariant.count;
}

pub returns-clause-marked : goal.returns-clause-marked
returns-clause-marked c s id among e lt =
    c.loop-step.invariant.marked s id (subst (λ (xs : List Step). Contains xs s) (sym (take_all c.loop-step.step-index c.args.steps.now c.loop-step-test.false)) among) e lt
