use Rattle.std.proofs.Common.{◌≡◌, subst, sym}
use Rattle.clause_store.specs.Found.{HasKept}
use Rattle.conflict_learn.proofs.Trails.{forced_at, has_reason, reason_others}
use Rattle.conflict_learn.proofs.reasons.reason_literals.Goals as goal

pub literals-requires : goal.literals-requires
literals-requires c =
    subst (λ n. HasKept c.args.store.now.clauses n (λ ls. Unit {0})) (sym c.requires.looked)
    (has_reason c.args.store.now.clauses _ _ c.args.reason c.requires.reason
    (forced_at c.args.store.now.clauses c.args.store.now.trail.steps c.args.place c.args.reason c.steps-steps.ensures.justified c.requires.within c.requires.reason))

pub returns-clause-others : goal.returns-clause-others
returns-clause-others c =
    reason_others c.args.store.now.clauses c.args.store.now.trail.steps c.args.place c.args.reason c.literals.result.now c.steps-steps.ensures.unique c.steps-steps.ensures.justified c.steps-steps.ensures.in_order
    c.requires.within c.requires.reason (subst (λ n. HasKept c.args.store.now.clauses n (λ ms. c.literals.result.now ≡ ms)) c.requires.looked c.literals.ensures)
