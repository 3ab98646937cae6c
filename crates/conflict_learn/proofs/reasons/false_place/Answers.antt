use Rattle.std.proofs.Common.{sym, subst}
use Rattle.clause_store.specs.Trail.{Assigns}
use Rattle.conflict_learn.proofs.Trails.{known_on}
use Rattle.conflict_learn.proofs.reasons.false_place.Goals as goal

pub place-requires-clause-known : goal.place-requires-clause-known
place-requires-clause-known c =
    known_on c.args.store.now.trail.steps c.args.store.now.trail.atoms c.negated.result c.steps-steps.ensures.known (subst (Assigns c.args.store.now.trail.steps) (sym c.negated.ensures) c.requires)
