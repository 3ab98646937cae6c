use Rattle.std.proofs.Common.{◌++◌, length, refl}
use Rattle.term_store.specs.declared.rows.Entry.{Entry}
use Rattle.term_store.proofs.RowLemmas.{rows_push}
use Rattle.term_store.proofs.rows.Rows.push.Goals as goal

pub returns-clause-ok : goal.returns-clause-ok
returns-clause-ok g c =
    let all = c.self.inside.numbers.items in
    let es = c.self.inside.entries.items in
    let e : Entry g.row.H.Denot = record { head = c.args.head; start = length all; end = length (all ++ c.args.numbers.now) } in
    rw (c.in_ok-append.ensures.entries, c.in_ok-append.ensures.numbers, ← c.self.view_is) (rows_push all c.args.numbers.now es e c.self.invariant refl refl)
