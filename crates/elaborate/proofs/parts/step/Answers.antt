use Rattle.std.proofs.Common.{rules, ◌≡◌, ◌<◌, ◌∙◌, ap, subst, sym, ◌∷◌, Some}
use Rattle.std.specs.Prelude.{nat_eq}
use Rattle.std.specs.HashMap.{get}
use Rattle.elaborate.specs.Parts.{jobs_left, outcome, AreInOrder}
use Rattle.elaborate.proofs.PartCopies.{fewer_by_visit, in_order_before, visited_before}
use Rattle.elaborate.proofs.parts.step.Goals as goal

pub returns-in-Some-clause-same : goal.returns-in-Some-clause-same
returns-in-Some-clause-same c =
    let there : get nat_eq c.args.copies.now c.in-Visit.id ≡ Some c.in-Some.field-0 = search rules in
    visited_before c.args.store.now.trees c.args.parts.now.trees c.in-Visit.id c.in-Some.field-0 c.args.jobs.now c.len.ensures.parts (c.requires.copies c.in-Visit.id c.in-Some.field-0 there)
    ∙ ap (λ j. outcome c.args.store.now.trees (j ∷ c.args.jobs.now) c.args.parts.now.trees) (sym c.in-Visit.is)

pub returns-in-Some-clause-order : goal.returns-in-Some-clause-order
returns-in-Some-clause-order c =
    let there : get nat_eq c.args.copies.now c.in-Visit.id ≡ Some c.in-Some.field-0 = search rules in
    in_order_before c.args.store.now.trees c.args.parts.now.trees c.in-Visit.id c.in-Some.field-0 c.args.jobs.now c.len.ensures.parts (c.requires.copies c.in-Visit.id c.in-Some.field-0 there)
    (subst (λ j. AreInOrder c.args.store.now.trees (j ∷ c.args.jobs.now) c.args.parts.now.trees) c.in-Visit.is c.requires.order)

pub returns-in-Some-clause-fewer : goal.returns-in-Some-clause-fewer
returns-in-Some-clause-fewer c =
    subst (λ j. jobs_left c.args.store.now.trees c.args.jobs.now < jobs_left c.args.store.now.trees (j ∷ c.args.jobs.now)) (sym c.in-Visit.is) (fewer_by_visit c.args.store.now.trees c.in-Visit.id c.args.jobs.now)
