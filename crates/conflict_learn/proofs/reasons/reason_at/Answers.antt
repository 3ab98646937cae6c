use Rattle.std.proofs.Common.{◌≡◌, ◌<◌, ℕ, length, Option, Some, None, IsSome, refl, subst, sym, ap, ◌∙◌}
use Rattle.std.proofs.lemmas.List.{get_or_default}
use Rattle.clause_store.specs.declared.trail.Step.{Step}
use Rattle.conflict_learn.specs.Analysing.{no_step, step_at}
use Rattle.conflict_learn.proofs.Trails.{has_a_reason}
use Rattle.conflict_learn.proofs.reasons.reason_at.Goals as goal

some_unless : (o : Option ℕ) → (o ≡ None → ⊥) → IsSome o
some_unless None h = absurd (h refl)
some_unless (Some x) h = refl

pub unwrap-requires : goal.unwrap-requires
unwrap-requires c =
    let steps = c.args.store.now.trail.steps in
    let lt : c.args.place < length c.steps-steps.result.now = subst (λ xs. c.args.place < length xs) (sym c.steps-steps.ensures.steps) c.requires.within in
    let is : c.index-steps-place.result ≡ step_at steps c.args.place = c.index-steps-place.is ∙ (get_or_default c.steps-steps.result.now c.args.place c.index-steps-place.result no_step lt ∙ ap (λ xs. step_at xs c.args.place) c.steps-steps.ensures.steps) in
    rw (← c.index-steps-place.is) (subst (λ (s : Step). IsSome s.reason) (sym is) (some_unless (step_at steps c.args.place).reason (has_a_reason steps c.args.place c.requires.within c.steps-steps.ensures.decided c.requires.follows)))
