use Rattle.std.proofs.Common.{ℕ, ◌<◌, List, length, get_or, subst, sym}
use Rattle.clause_store.specs.Stored.{Stored}
use Rattle.conflict_learn.specs.Learning.{IsKeptId}
use Rattle.cdcl_core.proofs.order.raise_premises.Goals as goal

pub raise_clause-requires : goal.raise_clause-requires
raise_clause-requires c =
    let ids : List ℕ = c.premises-id-items.result.now in
    let lt : c.loop-id.id-index < length c.args.learner.now.premises = subst (λ (xs : List ℕ). c.loop-id.id-index < length xs) c.premises-id-items.ensures c.loop-id-test.true in
    let k : IsKeptId c.args.store.now.clauses (get_or ids c.loop-id.id-index 0) =
    subst (λ (xs : List ℕ). IsKeptId c.args.store.now.clauses (get_or xs c.loop-id.id-index 0)) (sym c.premises-id-items.ensures) (c.requires c.loop-id.id-index 0 lt) in
    subst (λ (s : Stored). IsKeptId s.clauses (get_or ids c.loop-id.id-index 0)) (sym c.loop-id.invariant) k
