use Rattle.std.proofs.Common.{◌∙◌, ap, sym}
use Rattle.fraction128.specs.declared.Column.{Column}
use Rattle.fraction128.specs.Grid.{is_some, missed, is_basic}
use Rattle.simplex_steps.specs.State.{column_in}
use Rattle.simplex_steps.proofs.SuspectLemmas.{column_found, basic_test, and_tail}
use Rattle.simplex_steps.proofs.find.is_broken.Goals as goal

pub returns-then-is_outside : goal.returns-then-is_outside
returns-then-is_outside c =
    let t = c.args.tableau.now in
    let cs = c.args.columns.now in
    let is = column_found cs c.args.variable c.index-columns-variable.result c.requires c.index-columns-variable.is in
    let out = ap (λ (x : Column). is_some (missed x)) (sym is) ∙ sym c.is_outside.ensures ∙ c.if-is_outside.true in
    basic_test t c.args.variable c.is_basic.result c.facts.ensures c.is_basic.ensures.yes c.is_basic.ensures.no ∙ and_tail (is_some (missed (column_in cs c.args.variable))) (is_basic t.rows c.args.variable) out
