use Rattle.std.proofs.Common.{◌-◌, subst, arith}
use Rattle.std.specs.Prelude.{IfSome}
use Rattle.fraction128.specs.declared.Entry.{Entry}
use Rattle.simplex_steps.specs.State.{column_in}
use Rattle.simplex.specs.State.{FixedAt}
use Rattle.sum_bounds.proofs.WholeRows.{AddsPart, sums_more, sums_all}
use Rattle.sum_bounds.proofs.wholes.sums_of.Goals as goal

pub loop-left-preserved : goal.loop-left-preserved
loop-left-preserved c =
    let cs = c.args.simplex.now.columns in
    let es = c.args.entries.now in
    let n = c.loop-left.left in
    let bound = c.loop-left.invariant.0 in
    let some = c.loop-left-test.true in
    let e = c.index-entries-left.result in (
      omega (arith, bound),
      sums_more cs es n (n - 1) e c.fixed.result c.loop-left.sums c.in_ok-sums.sums (omega (arith, bound, some)) (omega (arith, some))
          (subst (λ (x : Entry). IfSome c.fixed.result (FixedAt (column_in cs x.variable))) c.index-entries-left.is c.fixed.ensures.some)
          (subst (λ (x : Entry). AddsPart x.coefficient c.fixed.result c.loop-left.sums c.in_ok-sums.sums) c.index-entries-left.is c.in_ok-sums.ensures) c.loop-left.invariant.1,
    )

pub returns : goal.returns
returns c =
    let done = c.loop-left-test.false in
    sums_all c.args.simplex.now.columns c.args.entries.now c.loop-left.left c.loop-left.sums (omega (arith, done)) c.loop-left.invariant.1
