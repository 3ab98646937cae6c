use Rattle.std.proofs.Common.{◌≡◌, false, sym, subst, ◌&&◌}
use Rattle.fraction128.proofs.Integers.{same_bits}
use Rattle.fraction128.specs.Grid.{pivot_fits}
use Rattle.tableau.specs.Table.{row_at}
use Rattle.tableau.proofs.RowLemmas.{if_err_then}
use Rattle.simplex_steps.specs.Moved.{CanPivot, pivoted_fits}
use Rattle.simplex_steps.proofs.Sound.{can_pivot, pivot_done, pivot_fails}
use Rattle.simplex_steps.proofs.turn.make_turn.Goals as goal

pub pivot_columns-requires-clause-pivot : goal.pivot_columns-requires-clause-pivot
pivot_columns-requires-clause-pivot c =
    subst (λ n. CanPivot c.args.tableau.now c.args.columns.now c.args.turn.place n c.args.turn.entering) (sym (same_bits c.args.turn.number c.requires.turn.in_range))
    (can_pivot c.args.tableau.now c.args.columns.now c.args.turn c.requires.sound.solution c.requires.turn)

pub returns-clause-advanced : goal.returns-clause-advanced
returns-clause-advanced c =
    pivot_done c.pivot_columns.result c.args.tableau.now c.pivot_columns.new.tableau c.args.columns.now c.pivot_columns.new.columns c.args.turn _ c.facts.ensures c.requires.sound c.requires.turn
    (same_bits c.args.turn.number c.requires.turn.in_range) c.pivot_columns.ensures.columns c.pivot_columns.ensures.rows c.pivot_columns.ensures.count c.pivot_columns.ensures.keeps c.pivot_columns.ensures.fits

pub returns-clause-range : goal.returns-clause-range
returns-clause-range c =
    if_err_then c.pivot_columns.result
    (λ e h r. pivot_fails c.args.tableau.now c.args.columns.now c.args.turn c.facts.ensures c.requires.sound.solution c.requires.turn
    (subst (λ n. (pivot_fits c.args.tableau.now.count c.args.tableau.now.rows (row_at c.args.tableau.now.rows c.args.turn.place).basic c.args.turn.entering && pivoted_fits c.args.tableau.now.rows c.args.columns.now c.args.turn.place n c.args.turn.entering) ≡ false) (same_bits c.args.turn.number c.requires.turn.in_range) (h r)))
    c.pivot_columns.ensures.range
