use Rattle.std.proofs.Common.{◌<◌, length, arith}
use Rattle.clause_store.proofs.Fewer.{HasLive, has_live}
use Rattle.clause_store.proofs.counted.CountedStore.row_of.Goals as goal

pub overflow_cast-result : goal.overflow_cast-result
overflow_cast-result c =
    let i = c.self.inside in
    let h : HasLive i.rows.entries c.args.id (λ ls. Unit {0}) = has_live i.rows.entries c.args.id (λ ls. Unit {0}) (rw (← c.self.view_is) at c.requires) in
    let small = c.self.invariant.kept.small in
    let within : c.args.id < length i.rows.entries = h.within in
    omega arith
