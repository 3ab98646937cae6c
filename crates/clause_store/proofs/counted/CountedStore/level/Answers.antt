use Rattle.std.proofs.Common.{◌<◌, length, subst, sym, arith}
use Rattle.clause_store.specs.Found.{HasLevel}
use Rattle.clause_store.specs.Watching.{kept_from}
use Rattle.clause_store.proofs.Fewer.{HasLive, has_live, live_level}
use Rattle.clause_store.proofs.counted.CountedStore.level.Goals as goal

pub overflow_cast-id : goal.overflow_cast-id
overflow_cast-id c =
    let i = c.self.inside in
    let h : HasLive i.rows.entries c.args.id (λ ls. Unit {0}) = has_live i.rows.entries c.args.id (λ ls. Unit {0}) (rw (← c.self.view_is) at c.requires) in
    let small = c.self.invariant.kept.small in
    let within : c.args.id < length i.rows.entries = h.within in
    omega arith

pub level-requires : goal.level-requires
level-requires c =
    let i = c.self.inside in
    let h : HasLive i.rows.entries c.args.id (λ ls. Unit {0}) = has_live i.rows.entries c.args.id (λ ls. Unit {0}) (rw (← c.self.view_is) at c.requires) in
    h.within

pub returns : goal.returns
returns c =
    let i = c.self.inside in
    let h : HasLive i.rows.entries c.args.id (λ ls. Unit {0}) = has_live i.rows.entries c.args.id (λ ls. Unit {0}) (rw (← c.self.view_is) at c.requires) in
    rw (← c.self.view_is) (subst (HasLevel (kept_from 0 i.rows.entries) c.args.id) (sym c.level.ensures) (live_level i.rows.entries c.args.id h.live))
