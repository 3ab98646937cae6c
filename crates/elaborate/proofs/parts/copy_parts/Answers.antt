use Rattle.std.proofs.Common.{All, length, sym, subst, ◌≡◌, ◌<◌, ◌∙◌, []}
use Rattle.std.proofs.lemmas.List.Elements.{All-tail}
use Rattle.std.specs.Prelude.{nat_eq, IfNone}
use Rattle.std.specs.HashMap.{get}
use Rattle.elaborate.specs.Parts.{job_place, AreInOrder}
use Rattle.elaborate.proofs.PartCopies.{has_copy, not_both}
use Rattle.elaborate.proofs.parts.copy_parts.Goals as goal

pub step-requires-clause-inside : goal.step-requires-clause-inside
step-requires-clause-inside c =
    All-tail (λ j. job_place j < length c.args.store.now.trees) c.in-Some.job c.pop.new.self (subst (All (λ j. job_place j < length c.args.store.now.trees)) c.in-Some.ensures.some c.loop-job.invariant.inside)

pub step-requires-clause-order : goal.step-requires-clause-order
step-requires-clause-order c = subst (λ js. AreInOrder c.args.store.now.trees js c.loop-job.parts.trees) c.in-Some.ensures.some c.loop-job.invariant.order

-- all jobs are done
pub unreachable-requires : goal.unreachable-requires
unreachable-requires c =
    let empty : (c.loop-job.jobs ≡ []) × (c.pop.new.self ≡ []) = subst (λ r. IfNone r ((c.loop-job.jobs ≡ []) × (c.pop.new.self ≡ []))) c.in_default.is c.pop.ensures.none in
    not_both (get nat_eq c.loop-job.copies c.args.id) (sym c.copy_of.ensures ∙ c.in-None.is)
    (has_copy c.args.store.now.trees c.loop-job.parts.trees c.args.id c.loop-job.jobs (get nat_eq c.loop-job.copies) c.requires.within empty.0 c.loop-job.invariant)

pub returns-clause-place : goal.returns-clause-place
returns-clause-place c = c.loop-job.invariant.copied c.args.id c.in-Some-copy_of.place (sym c.copy_of.ensures ∙ c.in-Some-copy_of.is)
