use Rattle.std.proofs.Common.{◌∙◌, ◌<◌, length, ap, sym, subst, refl}
use Rattle.tableau.specs.Table.{Table, row_at}
use Rattle.fraction128.specs.declared.Entry.{Entry}
use Rattle.simplex_steps.proofs.Next.{known_row}
use Rattle.sum_bounds.specs.Wholes.{AddsBoth}
use Rattle.sum_bounds.proofs.WholeRows.{bounds_first, bounds_more, bounds_all}
use Rattle.sum_bounds.proofs.wholes.bounds_of.Goals as goal

pub loop-entry-init : goal.loop-entry-init
loop-entry-init c =
    let cs = c.args.simplex.now.columns in
    let is = c.basic.ensures.value ∙ ap (λ (t : Table). (row_at t.rows c.args.place).basic) c.tableau-tableau.ensures in
    bounds_first cs (row_at c.args.simplex.now.table.rows c.args.place).basic c.entries-entry-items.result.now c.new-bounds.result.items c.add_bounds.new.bounds.items c.new-bounds.ensures.items
    (subst (λ i. AddsBoth cs i c.new-bounds.result.items c.add_bounds.new.bounds.items) is c.in_ok-add_bounds.ensures)

pub add_bounds-requires-in-loop-entry : goal.add_bounds-requires-in-loop-entry
add_bounds-requires-in-loop-entry c =
    let s = c.args.simplex.now in
    let value = c.entries-entry-items.ensures.value ∙ ap (λ (t : Table). (row_at t.rows c.args.place).entries) c.tableau-tableau.ensures in
    subst (λ (e : Entry). e.variable < length s.columns) (sym c.entry-item.is)
    (known_row s.table s.columns c.args.place c.entries-entry-items.result.now c.facts.ensures.table c.facts.ensures.solution.count c.requires value c.loop-entry.entry-index c.entry-item.result c.loop-entry-test.true)

pub loop-entry-preserved : goal.loop-entry-preserved
loop-entry-preserved c =
    let cs = c.args.simplex.now.columns in
    bounds_more cs (row_at c.args.simplex.now.table.rows c.args.place).basic c.entries-entry-items.result.now c.loop-entry.entry-index c.entry-item.result c.loop-entry.bounds.items
    c.add_bounds-in-loop-entry.new.bounds.items c.loop-entry-test.true c.loop-entry.invariant
    (subst (λ (e : Entry). AddsBoth cs e.variable c.loop-entry.bounds.items c.add_bounds-in-loop-entry.new.bounds.items) c.entry-item.is c.in_ok-add_bounds-2.ensures)

pub returns : goal.returns
returns c =
    let r = row_at c.args.simplex.now.table.rows c.args.place in
    let value = c.entries-entry-items.ensures.value ∙ ap (λ (t : Table). (row_at t.rows c.args.place).entries) c.tableau-tableau.ensures in
    bounds_all c.args.simplex.now.columns r r.basic c.entries-entry-items.result.now c.loop-entry.entry-index c.loop-entry.bounds.items refl value c.loop-entry-test.false c.loop-entry.invariant
