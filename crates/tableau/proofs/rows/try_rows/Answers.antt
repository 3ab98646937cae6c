use Rattle.std.proofs.Common.{arith, subst, get_or}
use Rattle.tableau.specs.Failing.{IsRange}
use Rattle.tableau.proofs.RowLemmas.{err_then}
use Rattle.tableau.proofs.Lists.{taken_all}
use Rattle.tableau.proofs.Passes.{same_more, tried_more, tried_past, refused_here}
use Rattle.tableau.proofs.rows.try_rows.Goals as goal

pub loop-here-preserved-then-here-rows : goal.loop-here-preserved-then-here-rows
loop-here-preserved-then-here-rows c = record {
  same = c.loop-here.invariant.same;
  tried = tried_past c.args.basic c.args.entering c.args.form.now c.args.place c.loop-here.rows c.args.list.now c.loop-here.here-index (omega arith) (λ l. absurd (omega arith)) c.loop-here.invariant.tried;
}

pub loop-here-preserved : goal.loop-here-preserved
loop-here-preserved c =
    let p = get_or c.args.list.now c.loop-here.here-index 0 in
    record {
      same = same_more c.args.rows.now c.loop-here.rows p c.index-rows-here.result c.try_row.new.row (omega arith) c.in_ok-try_row.ensures.same c.loop-here.invariant.same;
      tried = tried_more c.args.basic c.args.entering c.args.form.now c.args.place c.loop-here.rows c.args.list.now c.loop-here.here-index c.try_row.new.row (omega arith) (omega arith) c.in_ok-try_row.ensures.ok c.loop-here.invariant.tried;
    }

pub returns-clause-ok : goal.returns-clause-ok
returns-clause-ok c = λ k d lk h. c.loop-here.invariant.tried k d (omega (arith, lk)) (taken_all c.args.list.now c.loop-here.here-index k (omega arith) h)

pub returns-in_err-try_row-clause-range : goal.returns-in_err-try_row-clause-range
returns-in_err-try_row-clause-range c =
    err_then c.from_residual.result
    (λ e w r d. let q = c.in_err-try_row.ensures.range (subst IsRange w r) in
    refused_here c.args.basic c.args.entering c.args.form.now c.args.rows.now c.loop-here.rows (get_or c.args.list.now c.loop-here.here-index 0) c.index-rows-here.result d (omega arith) (omega arith) c.loop-here.invariant.same q.0 q.1)
    c.from_residual.ensures.1
