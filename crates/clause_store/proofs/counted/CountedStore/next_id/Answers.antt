use Rattle.std.proofs.Common.{◌<◌, All, subst, sym}
use Rattle.clause_store.specs.Stored.{Kept}
use Rattle.clause_store.specs.Watching.{kept_from}
use Rattle.clause_store.proofs.Fewer.{ids_within}
use Rattle.clause_store.proofs.counted.CountedStore.next_id.Goals as goal

pub returns : goal.returns
returns c =
    let i = c.self.inside in
    rw (← c.self.view_is) (subst (λ n. All (λ (k : Kept). k.id < n) (kept_from 0 i.rows.entries)) (sym c.len.ensures) (ids_within i.rows.entries))
