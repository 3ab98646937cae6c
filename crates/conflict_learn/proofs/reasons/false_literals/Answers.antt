use Rattle.std.proofs.Common.{◌≡◌, subst, sym}
use Rattle.clause_store.specs.Stored.{AllFalse}
use Rattle.clause_store.specs.Found.{HasKept}
use Rattle.conflict_learn.proofs.Trails.{by_id, as_kept}
use Rattle.conflict_learn.proofs.reasons.false_literals.Goals as goal

pub literals-requires : goal.literals-requires
literals-requires c = subst (λ n. HasKept c.args.store.now.clauses n (λ ls. Unit {0})) (sym c.requires.looked) (as_kept c.args.store.now.clauses c.args.id (AllFalse c.args.store.now.trail.steps) c.requires.false_clause)

pub returns-clause-all_false : goal.returns-clause-all_false
returns-clause-all_false c =
    by_id c.args.store.now.clauses c.args.id c.literals.result.now (AllFalse c.args.store.now.trail.steps) c.steps-steps.ensures.unique c.requires.false_clause
    (subst (λ n. HasKept c.args.store.now.clauses n (λ ms. c.literals.result.now ≡ ms)) c.requires.looked c.literals.ensures)
