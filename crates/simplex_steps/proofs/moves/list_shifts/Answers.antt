use Rattle.std.proofs.Common.{subst, arith, get_or}
use Rattle.tableau.specs.Failing.{IsRange}
use Rattle.tableau.proofs.RowLemmas.{err_then}
use Rattle.simplex_steps.specs.Moved.{shift_fits}
use Rattle.simplex_steps.proofs.Columns.{row_false}
use Rattle.simplex_steps.proofs.Shifts.{only_more, each_more, each_past, fits_more, fits_past, shifts_done, fits_done}
use Rattle.tableau.specs.Table.{row_at}
use Rattle.simplex_steps.proofs.moves.list_shifts.Goals as goal

pub returns-in_err-list_shift-clause-range : goal.returns-in_err-list_shift-clause-range
returns-in_err-list_shift-clause-range c =
    err_then c.from_residual.result
    (λ e w r. row_false c.args.tableau.now.rows (shift_fits c.args.columns.now c.args.variable c.args.distance) (get_or c.holders-places.result.now c.loop-place.place-index 0) (omega arith)
    (c.in_err-list_shift.ensures.range (subst IsRange w r)))
    c.from_residual.ensures.1

pub loop-place-preserved-then-place-len : goal.loop-place-preserved-then-place-len
loop-place-preserved-then-place-len c = record {
  only = c.loop-place.invariant.only;
  each = each_past c.args.columns.now c.args.variable c.args.distance c.args.tableau.now.rows c.holders-places.result.now c.loop-place.place-index c.loop-place.moved.items (omega arith) (λ l. absurd (omega arith)) c.loop-place.invariant.each;
  fits = fits_past c.args.columns.now c.args.variable c.args.distance c.args.tableau.now.rows c.holders-places.result.now c.loop-place.place-index (omega arith) (λ l. absurd (omega arith)) c.loop-place.invariant.fits;
}

pub loop-place-preserved : goal.loop-place-preserved
loop-place-preserved c = record {
  only = only_more c.args.columns.now c.args.variable c.args.distance c.args.tableau.now.rows (get_or c.holders-places.result.now c.loop-place.place-index 0) c.loop-place.moved.items c.list_shift.new.moved.items (omega arith)
      c.in_ok-list_shift.ensures.ok c.loop-place.invariant.only;
  each = each_more c.args.columns.now c.args.variable c.args.distance c.args.tableau.now.rows c.holders-places.result.now c.loop-place.place-index c.loop-place.moved.items c.list_shift.new.moved.items (omega arith) c.in_ok-list_shift.ensures.ok
      c.loop-place.invariant.each;
  fits = fits_more c.args.columns.now c.args.variable c.args.distance c.args.tableau.now.rows c.holders-places.result.now c.loop-place.place-index (omega arith) c.in_ok-list_shift.ensures.fits c.loop-place.invariant.fits;
}

pub returns-clause-ok : goal.returns-clause-ok
returns-clause-ok c =
    shifts_done c.args.columns.now c.args.variable c.args.distance c.args.tableau.now.rows c.holders-places.result.now c.loop-place.place-index c.loop-place.moved.items (omega arith) c.holders-places.ensures c.loop-place.invariant.only
    c.loop-place.invariant.each

pub returns-clause-fits : goal.returns-clause-fits
returns-clause-fits c =
    fits_done c.args.columns.now c.args.variable c.args.distance c.args.tableau.now.rows c.holders-places.result.now c.loop-place.place-index (omega arith) c.holders-places.ensures
    (λ k lt. c.requires.fractions (row_at c.args.tableau.now.rows k).basic) c.ratio-distance.ensures.lowest c.loop-place.invariant.fits
