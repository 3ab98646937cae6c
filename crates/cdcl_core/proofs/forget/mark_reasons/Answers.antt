use Rattle.std.proofs.Common.{List, subst}
use Rattle.clause_store.specs.declared.trail.Step.{Step}
use Rattle.cdcl_core.specs.Forgetting.{AreMarked}
use Rattle.cdcl_core.proofs.forget.mark_reasons.Goals as goal

pub returns : goal.returns
returns c = subst (λ (xs : List Step). AreMarked xs c.mark.new.marks.items) c.steps-steps.ensures.steps c.mark.ensures.marked
