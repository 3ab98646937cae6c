use Rattle.atom_form.proofs.SumTableNumbering.{sums_push, table_push}
use Rattle.atom_form.proofs.sum_table.append.Goals as goal

pub returns-in-Ok-clause-table : goal.returns-in-Ok-clause-table
returns-in-Ok-clause-table c =
    table_push c.args.all.now.items c.args.spans.now.items c.args.keys.now c.requires.table c.args.sum.now c.requires.new c.append_span.new.all.items c.append_span.new.spans.items c.args.hash c.requires.hash
    c.in-Ok.ensures.summands c.in-Ok.ensures.spans c.push.new.self c.in_ok-push.ensures.ok

pub returns-in-Ok-clause-ok : goal.returns-in-Ok-clause-ok
returns-in-Ok-clause-ok c =
    sums_push c.args.all.now.items c.args.spans.now.items c.args.keys.now c.requires.table c.args.sum.now c.requires.new c.append_span.new.all.items c.append_span.new.spans.items c.args.hash c.requires.hash
    c.in-Ok.ensures.summands c.in-Ok.ensures.spans
