use Rattle.std.proofs.Common.{◌≡◌}
use Rattle.clause_store.proofs.Fewer.{HasLive, has_live, live_kept}
use Rattle.clause_store.proofs.counted.CountedStore.literals.Goals as goal

pub literals-requires : goal.literals-requires
literals-requires c =
    let i = c.self.inside in
    let h : HasLive i.rows.entries c.args.looked (λ ls. Unit {0}) = has_live i.rows.entries c.args.looked (λ ls. Unit {0}) (rw (← c.self.view_is) at c.requires) in
    h.within

pub returns : goal.returns
returns c =
    let i = c.self.inside in
    let h : HasLive i.rows.entries c.args.looked (λ ls. Unit {0}) = has_live i.rows.entries c.args.looked (λ ls. Unit {0}) (rw (← c.self.view_is) at c.requires) in
    rw (← c.self.view_is) (live_kept i.rows.entries c.args.looked (λ ls. c.literals.result.now ≡ ls) h.live c.literals.ensures)
