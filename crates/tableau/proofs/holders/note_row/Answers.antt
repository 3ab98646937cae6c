use Rattle.tableau.proofs.Lists.{noted_all}
use Rattle.tableau.proofs.holders.note_row.Goals as goal

pub returns-in_ok-note-2-clause-ok : goal.returns-in_ok-note-2-clause-ok
returns-in_ok-note-2-clause-ok c =
    λ _. noted_all c.args.row.now.next.items c.args.row.now.entries.items c.deref.result.now c.deref-then-row.result.now c.args.place c.note.new.changes.items c.note-then-row.new.changes.items
    c.deref.ensures.value c.deref-then-row.ensures.value c.in_ok-note.ensures.ok c.in_ok-note-2.ensures.keeps
