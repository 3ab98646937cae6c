use Rattle.std.proofs.Common.{◌∙◌}
use Rattle.simplex_steps.proofs.Next.{known_row}
use Rattle.simplex_steps.proofs.LineLemmas.{line_made}
use Rattle.simplex_steps.proofs.line.line_of_pivot.Goals as goal

pub members-requires : goal.members-requires
members-requires c = known_row c.args.tableau.now c.args.columns.now c.args.place c.entries.result.now c.facts.ensures c.requires.count c.requires.place c.entries.ensures.value

pub returns : goal.returns
returns c =
    line_made c.args.tableau.now c.args.columns.now c.args.place c.basic.result c.args.entering c.from_whole.result c.in_ok-basic.basic c.entries.result.now c.from_vec.result c.facts.ensures c.requires.place
    c.basic.ensures.value c.from_whole.ensures c.in_ok-basic.ensures c.entries.ensures.value (c.from_vec.ensures ∙ c.in_ok-entries.ensures)
