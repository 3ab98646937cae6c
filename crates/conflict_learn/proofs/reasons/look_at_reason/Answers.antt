use Rattle.conflict_learn.proofs.Trails.{forced_at, has_reason}
use Rattle.conflict_learn.proofs.reasons.look_at_reason.Goals as goal

pub look-requires : goal.look-requires
look-requires c =
    has_reason c.args.store.now.clauses _ _ c.args.reason c.requires.reason
    (forced_at c.args.store.now.clauses c.args.store.now.trail.steps c.args.place c.args.reason c.steps-steps.ensures.justified c.requires.within c.requires.reason)

pub returns-clause-kept : goal.returns-clause-kept
returns-clause-kept c =
    has_reason c.args.store.now.clauses _ _ c.args.reason c.requires.reason
    (forced_at c.args.store.now.clauses c.args.store.now.trail.steps c.args.place c.args.reason c.steps-steps.ensures.justified c.requires.within c.requires.reason)
