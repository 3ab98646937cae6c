use Rattle.std.proofs.Common.{◌∙◌, ap}
use Rattle.tableau.specs.Table.{Table, row_at}
use Rattle.simplex_steps.proofs.Next.{known_row}
use Rattle.sum_bounds.proofs.reach.reach_at.Goals as goal

pub reach_of-requires : goal.reach_of-requires
reach_of-requires c =
    let s = c.args.simplex.now in
    known_row s.table s.columns c.args.place c.entries-entries.result.now c.facts.ensures.table c.facts.ensures.solution.count c.requires
    (c.entries-entries.ensures.value ∙ ap (λ (t : Table). (row_at t.rows c.args.place).entries) c.tableau-tableau.ensures)
