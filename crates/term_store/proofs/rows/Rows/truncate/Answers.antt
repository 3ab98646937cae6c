use Rattle.std.proofs.Common.{◌≡◌, ◌<◌, length, get_or, arith, ap}
use Rattle.term_store.specs.declared.rows.Entry.{Entry}
use Rattle.term_store.proofs.RowLemmas.{rows_cut}
use Rattle.term_store.proofs.rows.Rows.truncate.Goals as goal

pub invariant_of-self : goal.invariant_of-self
invariant_of-self g c =
    let start : c.index.result.now.start ≡ (get_or c.self.inside.entries.items c.args.count c.index.result.now).start = ap (λ (e : Entry g.row.H.Denot). e.start) c.index.ensures in
    let short : c.args.count < length c.self.inside.entries.items = omega arith in
    rw (c.truncate.ensures.items, c.truncate-then-count-len.ensures.items, start)
    (rows_cut c.args.count c.index.result.now c.self.inside.entries.items c.self.inside.numbers.items c.self.invariant short).laid

pub returns-then-count-len : goal.returns-then-count-len
returns-then-count-len g c =
    let start : c.index.result.now.start ≡ (get_or c.self.inside.entries.items c.args.count c.index.result.now).start = ap (λ (e : Entry g.row.H.Denot). e.start) c.index.ensures in
    let short : c.args.count < length c.self.inside.entries.items = omega arith in
    rw (c.truncate.ensures.items, c.truncate-then-count-len.ensures.items, start, ← c.self.view_is)
    (rows_cut c.args.count c.index.result.now c.self.inside.entries.items c.self.inside.numbers.items c.self.invariant short).view
