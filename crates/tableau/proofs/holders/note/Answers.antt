use Rattle.std.proofs.Common.{◌≡◌, true, ◌⊎◌, inl, inr, arith, Contains}
use Rattle.tableau.specs.declared.holders.Change.{Change}
use Rattle.tableau.specs.Staged.{HasVariable}
use Rattle.tableau.proofs.Lists.{noted_more}
use Rattle.tableau.proofs.holders.note.Goals as goal

pub loop-entry-preserved : goal.loop-entry-preserved
loop-entry-preserved c = record {
  keeps = λ x h. c.in_ok-note_unless.ensures.keeps x (c.loop-entry.invariant.keeps x h);
  so_far = noted_more c.args.entries.now c.args.others.now c.loop-entry.entry-index c.args.place c.args.gained c.loop-entry.changes.items c.note_unless.new.changes.items c.entry-item.result (omega arith) c.entry-item.is
      c.in_ok-note_unless.ensures.keeps (present c.in_ok-note_unless.ensures.ok) c.loop-entry.invariant.so_far;
}
  where
    present : (c.is_at.result ≡ true) ⊎ Contains c.note_unless.new.changes.items (let y : Change = record { variable = c.entry-item.result.variable; place = c.args.place; gained = c.args.gained } in y)
        → HasVariable c.entry-item.result.variable c.args.others.now ⊎ Contains c.note_unless.new.changes.items (let y : Change = record { variable = c.entry-item.result.variable; place = c.args.place; gained = c.args.gained } in y)
    present (inl e) = inl (c.is_at.ensures e)
    present (inr h) = inr h

pub returns-clause-ok : goal.returns-clause-ok
returns-clause-ok c = λ i lt. c.loop-entry.invariant.so_far i (omega (arith, lt))
