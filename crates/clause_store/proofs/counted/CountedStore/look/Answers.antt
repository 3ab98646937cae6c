use Rattle.std.proofs.Common.{◌<◌, length, arith}
use Rattle.clause_store.proofs.Fewer.{HasLive, has_live}
use Rattle.clause_store.proofs.counted.CountedStore.look.Goals as goal

pub overflow_cast-id : goal.overflow_cast-id
overflow_cast-id c =
    let i = c.self.inside in
    let h : HasLive i.rows.entries c.args.id (λ ls. Unit {0}) = has_live i.rows.entries c.args.id (λ ls. Unit {0}) (rw (← c.self.view_is) at c.requires) in
    let small = c.self.invariant.kept.small in
    let within : c.args.id < length i.rows.entries = h.within in
    omega arith

pub look-requires : goal.look-requires
look-requires c =
    let i = c.self.inside in
    let h : HasLive i.rows.entries c.args.id (λ ls. Unit {0}) = has_live i.rows.entries c.args.id (λ ls. Unit {0}) (rw (← c.self.view_is) at c.requires) in
    h.within
