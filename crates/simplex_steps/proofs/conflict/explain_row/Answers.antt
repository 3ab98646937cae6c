use Rattle.std.proofs.Common.{◌∙◌, ◌≡◌, ap₂}
use Rattle.std.proofs.lemmas.Result.{IfOk-weaker}
use Rattle.simplex_steps.specs.Conflict.{stops, IsRowConflict}
use Rattle.simplex_steps.proofs.Next.{known_row}
use Rattle.simplex_steps.proofs.ConflictLemmas.{row_conflict}
use Rattle.simplex_steps.proofs.conflict.explain_row.Goals as goal

pub explain-requires-clause-entries : goal.explain-requires-clause-entries
explain-requires-clause-entries c = known_row c.args.tableau.now c.args.columns.now c.args.place c.entries.result.now c.facts.ensures c.requires.solution.count c.requires.place c.entries.ensures.value

pub returns : goal.returns
returns c =
    IfOk-weaker c.explain.result (λ bs. bs.items ≡ stops c.args.columns.now c.args.rises c.basic.result c.entries.result.now) (λ bs. IsRowConflict c.args.tableau.now.rows c.args.columns.now bs.items)
    (λ bs e. row_conflict c.args.tableau.now c.args.columns.now c.args.place c.args.number c.args.rises bs.items c.facts.ensures c.requires.solution c.requires.place c.requires.target c.requires.stopped
    (e ∙ ap₂ (stops c.args.columns.now c.args.rises) c.basic.ensures.value c.entries.ensures.value))
    c.explain.ensures
