use Rattle.std.proofs.Common.{◌∙◌, ap}
use Rattle.tableau.specs.Table.{Table, row_at}
use Rattle.simplex_steps.proofs.Next.{known_row}
use Rattle.sum_bounds.proofs.WholeRows.{differences}
use Rattle.sum_bounds.proofs.wholes.differences_of.Goals as goal

pub sums_of-requires : goal.sums_of-requires
sums_of-requires c =
    let s = c.args.simplex.now in
    known_row s.table s.columns c.args.place c.entries.result.now c.facts.ensures.table c.facts.ensures.solution.count c.requires
    (c.entries.ensures.value ∙ ap (λ (t : Table). (row_at t.rows c.args.place).entries) c.tableau-tableau.ensures)

pub returns : goal.returns
returns c =
    differences c.args.simplex.now.columns (row_at c.args.simplex.now.table.rows c.args.place) c.basic.result c.entries.result.now c.from_whole.result c.fixed.result c.in_ok-sums.sums
    (c.basic.ensures.value ∙ ap (λ (t : Table). (row_at t.rows c.args.place).basic) c.tableau-tableau.ensures)
    (c.entries.ensures.value ∙ ap (λ (t : Table). (row_at t.rows c.args.place).entries) c.tableau-tableau.ensures)
    c.from_whole.ensures c.fixed.ensures.some c.in_ok-sums.ensures c.with_part.result c.with_part.ensures
