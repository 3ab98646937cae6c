use Rattle.std.proofs.Common.{◌≡◌, ◌≤◌, ◌∙◌, sym, subst, arith}
use Rattle.clause_store.specs.Trail.{Assigns}
use Rattle.conflict_learn.specs.Analysing.{no_step, step_at}
use Rattle.conflict_learn.proofs.Trails.{known_on}
use Rattle.conflict_learn.proofs.reasons.place_of.Goals as goal
use Rattle.clause_store.proofs.Froms.{assigns_at, same_place}

pub place-requires-clause-assigned : goal.place-requires-clause-assigned
place-requires-clause-assigned c =
    subst (Assigns c.args.store.now.trail.steps) (c.requires.is_false.literal ∙ sym c.negated.ensures) (assigns_at c.args.store.now.trail.steps c.requires.is_false.place (omega arith))

pub place-requires-clause-known : goal.place-requires-clause-known
place-requires-clause-known c =
    known_on c.args.store.now.trail.steps c.args.store.now.trail.atoms c.negated.result c.steps-steps.ensures.known
    (subst (Assigns c.args.store.now.trail.steps) (c.requires.is_false.literal ∙ sym c.negated.ensures) (assigns_at c.args.store.now.trail.steps c.requires.is_false.place (omega arith)))

pub returns-clause-below : goal.returns-clause-below
returns-clause-below c =
    let same : c.requires.is_false.place ≡ c.place.result =
    same_place c.args.store.now.trail.steps c.requires.is_false.place c.place.result c.steps-steps.ensures.fresh (omega arith) c.place.ensures.within
    (c.requires.is_false.literal ∙ sym (c.place.ensures.literal no_step ∙ c.negated.ensures)) in
    omega arith

pub returns-clause-shallow : goal.returns-clause-shallow
returns-clause-shallow c =
    let same : c.requires.is_false.place ≡ c.place.result =
    same_place c.args.store.now.trail.steps c.requires.is_false.place c.place.result c.steps-steps.ensures.fresh (omega arith) c.place.ensures.within
    (c.requires.is_false.literal ∙ sym (c.place.ensures.literal no_step ∙ c.negated.ensures)) in
    subst (λ k. (step_at c.args.store.now.trail.steps k).depth ≤ c.args.depth) same c.requires.is_false.shallow
