use Rattle.std.proofs.Common.{◌≡◌, ℕ, ◌<◌, List, length, get_or, subst, sym, ap, ◌∙◌}
use Rattle.std.proofs.lemmas.List.{get_or_default}
use Rattle.clause_store.specs.declared.trail.Step.{Step}
use Rattle.cdcl_core.proofs.quiet.depth_of.Goals as goal
use Rattle.clause_store.proofs.Froms.{is-from, no_step}
use Rattle.clause_store.specs.From.{IsFrom}

pub returns : goal.returns
returns c =
    let steps : List Step = c.args.store.now.trail.steps in
    let own : List Step = c.steps-steps.result.now in
    let k : ℕ = c.place-place.result in
    let s : Step = c.index-steps-place.result in
    let lt : k < length steps = c.place-place.ensures.within in
    let same : get_or steps k no_step ≡ get_or own k s = get_or_default steps k no_step s lt ∙ ap (λ (xs : List Step). get_or xs k s) (sym c.steps-steps.ensures.steps) in
    subst (IsFrom steps c.args.literal) (ap (λ (x : Step). x.depth) same) (is-from steps k c.args.literal c.steps-steps.ensures.fresh lt (c.place-place.ensures.literal no_step))
