use Rattle.std.proofs.Common.{◌≡◌, true, false, sym, subst, ◌&&◌}
use Rattle.std.proofs.lemmas.Result.{on_ok_weaker}
use Rattle.fraction128.proofs.Integers.{same_bits}
use Rattle.fraction128.specs.Grid.{pivot_fits}
use Rattle.tableau.specs.Table.{row_at}
use Rattle.tableau.proofs.RowLemmas.{if_err_then}
use Rattle.simplex_steps.specs.Moved.{CanPivot, pivoted_fits}
use Rattle.simplex_steps.proofs.Sound.{can_pivot, pivot_would_fit, pivot_fails}
use Rattle.simplex_steps.proofs.turn.try_turn.Goals as goal

pub try_columns-requires : goal.try_columns-requires
try_columns-requires c = record {
  pivot = subst (λ n. CanPivot c.args.tableau.now c.args.columns.now c.args.turn.place n c.args.turn.entering) (sym (same_bits c.args.turn.number c.requires.turn.in_range))
      (can_pivot c.args.tableau.now c.args.columns.now c.args.turn c.requires.sound.solution c.requires.turn);
}

pub returns-clause-fits : goal.returns-clause-fits
returns-clause-fits c =
    on_ok_weaker c.try_columns.result
    (λ e. pivot_would_fit c.args.tableau.now c.args.columns.now c.args.turn c.facts.ensures c.requires.sound.solution c.requires.turn
    (subst (λ n. (pivot_fits c.args.tableau.now.count c.args.tableau.now.rows (row_at c.args.tableau.now.rows c.args.turn.place).basic c.args.turn.entering && pivoted_fits c.args.tableau.now.rows c.args.columns.now c.args.turn.place n c.args.turn.entering) ≡ true) (same_bits c.args.turn.number c.requires.turn.in_range) e))
    c.try_columns.ensures.fits

pub returns-clause-range : goal.returns-clause-range
returns-clause-range c =
    if_err_then c.try_columns.result
    (λ e h r. pivot_fails c.args.tableau.now c.args.columns.now c.args.turn c.facts.ensures c.requires.sound.solution c.requires.turn
    (subst (λ n. (pivot_fits c.args.tableau.now.count c.args.tableau.now.rows (row_at c.args.tableau.now.rows c.args.turn.place).basic c.args.turn.entering && pivoted_fits c.args.tableau.now.rows c.args.columns.now c.args.turn.place n c.args.turn.entering) ≡ false) (same_bits c.args.turn.number c.requires.turn.in_range) (h r)))
    c.try_columns.ensures.range
