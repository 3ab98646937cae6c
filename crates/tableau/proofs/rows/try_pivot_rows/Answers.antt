use Rattle.std.proofs.Common.{ap, length, arith}
use Rattle.std.proofs.lemmas.Result.{on_ok_weaker}
use Rattle.tableau.proofs.PivotLemmas.{place_in_form, tried_is, refused_other}
use Rattle.tableau.proofs.RowLemmas.{if_err_then}
use Rattle.tableau.proofs.rows.try_pivot_rows.Goals as goal

pub try_rows-requires-clause-place : goal.try_rows-requires-clause-place
try_rows-requires-clause-place c =
    omega (arith, place_in_form _ _ _ _ _ c.in_ok-solved.ensures.ok, ap length c.deref-2.ensures.value)

pub returns-clause-ok : goal.returns-clause-ok
returns-clause-ok c =
    on_ok_weaker c.try_rows.result
    (λ h d. tried_is c.args.rows.now c.try_rows.new.rows c.args.entering c.args.place c.in_ok-solved.solved c.args.list.now c.prepare.new.out.items c.deref-2.result.now c.deref.result.now
    c.index-rows-place.result c.index-rows-place-2.result d c.requires.place c.deref.ensures.value c.deref-2.ensures.value c.in_ok-solved.ensures.ok h c.requires.listed)
    c.try_rows.ensures.ok

pub returns-clause-range : goal.returns-clause-range
returns-clause-range c =
    if_err_then c.try_rows.result
    (λ e h r d. refused_other c.args.rows.now c.args.entering c.args.place c.in_ok-solved.solved c.prepare.new.out.items c.deref-2.result.now c.deref.result.now
    c.index-rows-place.result c.index-rows-place-2.result d c.requires.place c.deref.ensures.value c.deref-2.ensures.value c.in_ok-solved.ensures.ok (h r d))
    c.try_rows.ensures.range
